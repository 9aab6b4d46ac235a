-- What the code holds of a box: the first bytes of a line and of its text. A line longer than 257 bytes is answered as its first 257
-- are, and a text longer than 24,001 bytes likewise: `requested-cut` of `demands`.
use Rattle.std.specs.Prelude.{Bool, false, List, ◌≡◌, ℕ, length, take}
use Rattle.filebox.specs.FirstWord.{stages}
use Rattle.filebox.specs.Box.{Box, between, fed, finished}
use Rattle.filebox.specs.declared.held.Held.{Held}
use Rattle.filebox.specs.declared.first_word.Stage.TheVariants.{Blanks}

-- the buffer s has room for so many bytes, and its first n are the first of these
pub record Holds (most : ℕ) (s : List ℕ) (n : ℕ) (whole : List ℕ) : Type 0 where
  pub room : length s ≡ most
  pub count : n ≡ length (take most whole)
  pub bytes : take n s ≡ take most whole

-- the table, its index, the line, the text and the reply as they are lent, and what is held, show the box x
pub record Shows (x : Box) (t d l m r : List ℕ) (h : Held) : Type 0 where
  pub table : t ≡ x.table
  pub index : d ≡ x.index
  pub reply : r ≡ x.reply
  pub line : Holds 257 l h.line x.line
  pub stage : h.stage ≡ stages Blanks x.line
  pub asked : h.asked ≡ x.asked
  pub text : Holds 24001 m h.text x.text

-- whatever box is shown before, what f makes of it is shown after
pub record Follows (f : Box → Box) (t d l m r : List ℕ) (h : Held) (t' d' l' m' r' : List ℕ) (h' : Held) : Type 0 where
  pub shows : (x : Box) → Shows x t d l m r h → Shows (f x) t' d' l' m' r' h'

-- some input, which no contract can name, has led from a table, its index and a reply to what is shown
pub record Came (t₀ d₀ r₀ t d l m r : List ℕ) (h : Held) : Type 0 where
  pub input : List ℕ
  pub shows : Shows (fed (between t₀ d₀ r₀) input) t d l m r h

-- .. and to its end
pub record Over (t₀ d₀ r₀ t d r : List ℕ) : Type 0 where
  pub input : List ℕ
  pub table : t ≡ (finished (fed (between t₀ d₀ r₀) input)).table
  pub index : d ≡ (finished (fed (between t₀ d₀ r₀) input)).index
  pub reply : r ≡ (finished (fed (between t₀ d₀ r₀) input)).reply

-- nothing is held of a line
abbrev pub fresh : Bool → Held
fresh heard = record { line = 0; stage = Blanks; asked = false; text = 0; heard = heard }
