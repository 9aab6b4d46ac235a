-- "each answer's .. numbers in decimal on a line, a blank between"
use Rattle.std.specs.Prelude.{List, [], ◌∷◌, ◌++◌, ◌≡◌, ℕ, ◌+◌, ◌≤◌, take}
use Rattle.io.specs.Digits.{last_digits as digits, IsDigitCount}
use Rattle.answers.specs.declared.Answer.{Answer}
use Rattle.answers.specs.Shown.{shown}
use Rattle.filebox.specs.Box.{Box, kept, outcome}
use Rattle.filebox.specs.Shows.{Shows}
use Rattle.filebox.specs.declared.held.Held.{Held}
use Rattle.filebox.specs.declared.output.Answered.{Answered}

-- s is n in decimal, in the fewest digits that hold it
pub record Decimal (n : ℕ) (s : List ℕ) : Type 0 where
  pub places : ℕ
  pub fewest : IsDigitCount 10 1 n places
  pub digits : s ≡ digits 10 places n

-- a number's digits d and the byte b put after s
abbrev pub put : List ℕ → List ℕ → ℕ → List ℕ
put s d b = s ++ d ++ b ∷ []

-- n in decimal and the byte b were put after the first bytes of l, up to r
pub record Spelled (l : List ℕ) (at n b r : ℕ) (l' : List ℕ) : Type 0 where
  pub number : List ℕ
  pub decimal : Decimal n number
  pub text : take r l' ≡ put (take at l) number b
  pub end : r ≤ at + 21

-- the seven numbers, a blank after each but the last, which a byte 10 follows
pub record Line (a : Answer) (s : List ℕ) : Type 0 where
  pub number : List ℕ
  pub place : List ℕ
  pub link : List ℕ
  pub names : List ℕ
  pub displaced : List ℕ
  pub bytes : List ℕ
  pub stores : List ℕ
  pub number_is : Decimal a.number number
  pub place_is : Decimal a.place place
  pub link_is : Decimal a.link link
  pub names_is : Decimal a.names names
  pub displaced_is : Decimal a.displaced displaced
  pub bytes_is : Decimal a.bytes bytes
  pub stores_is : Decimal a.stores stores
  pub text : s ≡ put (put (put (put (put (put (put [] number 32) place 32) link 32) names 32) displaced 32) bytes 32) stores 10

-- what a request made of a box comes to: the table, its index and the reply after it, its line in o, and how many bytes of both are to be written
pub record Told (x : Box) (t d r o : List ℕ) (w : Answered) : Type 0 where
  pub table : t ≡ (outcome x).table
  pub index : d ≡ (kept x).index
  pub reply : r ≡ (outcome x).reply
  pub line : Line (shown (outcome x).answer) (take w.line o)
  pub bytes : w.reply ≡ (outcome x).answer.bytes

pub record Asks (t d l m r : List ℕ) (h : Held) (t' d' r' o : List ℕ) (w : Answered) : Type 0 where
  pub tells : (x : Box) → Shows x t d l m r h → Told x t' d' r' o w
