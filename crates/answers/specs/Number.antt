-- "Reply numbers": the paper's number of each.
use Rattle.std.specs.Prelude.{◌≡◌, ◌≤◌, ◌<◌, ℕ, Result, MatchResult}
use Rattle.answers.specs.declared.number.Number.{Number}
use Rattle.answers.specs.declared.number.NoRefusal.{NoRefusal}
use Rattle.answers.specs.declared.number.Number.TheVariants.{Unsized, Unsound, UserTooHigh, BadLine, NoFunction, WrongCount, Malformed, IllegalBase, UnfitDeclaration, TextTooLong, NotThere, NoDirectory, ReadInhibited, WriteInhibited, WrongType, Borne, Full, Peopled, NoRoom, ReplyTooShort, LacksBit, Stopped, Marked, Long, LevelTooLow, IndexUntrue, BadNumber, BeyondEnd}

abbrev pub number_of : Number → ℕ
number_of Unsized = 1
number_of Unsound = 2
number_of UserTooHigh = 3
number_of BadLine = 4
number_of NoFunction = 5
number_of WrongCount = 6
number_of Malformed = 7
number_of IllegalBase = 8
number_of UnfitDeclaration = 9
number_of TextTooLong = 10
number_of NotThere = 11
number_of NoDirectory = 12
number_of ReadInhibited = 13
number_of WriteInhibited = 14
number_of WrongType = 15
number_of Borne = 16
number_of Full = 17
number_of Peopled = 18
number_of NoRoom = 19
number_of ReplyTooShort = 20
number_of LacksBit = 21
number_of Stopped = 22
number_of Marked = 23
number_of Long = 24
number_of LevelTooLow = 25
number_of IndexUntrue = 26
number_of BadNumber = 27
number_of BeyondEnd = 28

-- the number with this value, or none has it
abbrev pub Decodes : ℕ → Result Number NoRefusal → Type 0
Decodes n r = MatchResult r (λ number. (number_of number ≡ n) × (1 ≤ n)) (λ _. 1 ≤ n → 28 < n)
