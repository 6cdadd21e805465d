-- The code's modes, and the definitions' modes that they are. Definitions only.
use Rattle.std.specs.Prelude.{ℕ, List, drop, Option, None, Some}
use Rattle.definitions.specs.Listing.{text}
use Rattle.texts.specs.CuttingText as Text
use Rattle.cutting_text.specs.declared.mode.LineWord.{LineWord}
use Rattle.cutting_text.specs.declared.mode.LineWord.TheVariants.{Run, Drop, Total, Rest}
use Rattle.cutting_text.specs.declared.mode.Number.{Number}
use Rattle.cutting_text.specs.declared.mode.Number.TheVariants.{Customer, Place, Start}
use Rattle.cutting_text.specs.declared.mode.Mode.{Mode}
use Rattle.cutting_text.specs.declared.mode.Mode.TheVariants.{Fresh, Spelling, Passing, Before, Within, Between, Behind}
use Rattle.cutting_text.specs.declared.mode.Turn as Turns
use Rattle.cutting_text.specs.declared.mode.Line as Lines

abbrev pub number_of : Number → Text.Number
number_of Customer = Text.a_customer
number_of Place = Text.a_place
number_of Start = Text.a_start

-- the letters of a word behind its first, and what comes behind the word
abbrev pub letters_of : LineWord → List ℕ
letters_of Run = text "un"
letters_of Drop = text "rop"
letters_of Total = text "otal"
letters_of Rest = text "est"

abbrev pub after_of : LineWord → Text.Mode
after_of Run = Text.before Text.a_customer
after_of Drop = Text.passing
after_of Total = Text.passing
after_of Rest = Text.before Text.a_place

abbrev pub mode_of : Mode → Text.Mode
mode_of Fresh = Text.fresh
mode_of (Spelling w i) = Text.spelling (drop i (letters_of w)) (after_of w)
mode_of Passing = Text.passing
mode_of (Before k) = Text.before (number_of k)
mode_of (Within k n) = Text.within (number_of k) n
mode_of Between = Text.between
mode_of Behind = Text.behind

abbrev pub moved_of : Option Mode → Option Text.Mode
moved_of None = None
moved_of (Some m) = Some (mode_of m)

-- the state behind a blank, and behind the end of a line
abbrev pub turned : Turns.Turn → Text.State → Option Text.State
turned Turns.TheVariants.Stuck s = None
turned (Turns.TheVariants.On m) s = Some (Text.to (mode_of m) s)
turned (Turns.TheVariants.Call n) s = Some (Text.taken Text.a_customer n s)
turned (Turns.TheVariants.Place n) s = Some (Text.taken Text.a_place n s)

abbrev pub lined : Lines.Line → Text.State → Option Text.State
lined Lines.TheVariants.Early s = None
lined Lines.TheVariants.Passed s = Some (Text.to Text.fresh s)
lined Lines.TheVariants.Run s = Some (Text.run_ended s)
