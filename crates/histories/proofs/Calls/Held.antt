-- A file held in its place: every byte of its heading that is no count, and its text records whole, none gone and none new.
-- So its text, level, length and code are read as before: each is a number of the first 12 bytes, or found by position.
use mathlib.Core.Bool.{true}
use mathlib.Core.List.{List}
use mathlib.Core.Logic.{◌⊎◌, inl, inr}
use mathlib.Core.Path.{◌≡◌, refl, sym, ◌∙◌}
use Prim.Native.Nat.{ℕ, ◌+◌, ◌<◌}
use native.Mathlib.Omega.{arith}
use lib.Dec.{eqb}
use lib.ListN.{length, take, drop}
use lib.Seq.{get_or-take}
use Rattle.paper.specs.Scan.{Found, at, nowhere, first_below}
use Rattle.paper.specs.Record.{byte, is_kind, level, heading_code, text_length, heading_of, text_at, held}
use Rattle.paper.specs.Table.{rooms, rec, place, text_room}
use Rattle.paper.specs.Block.{blocks_of, file_text}
use Rattle.paper.specs.Mend.{keeps_text}
use Rattle.laws.proofs.Tests.{same_truth, and_left, and_right, and_both}
use Rattle.laws.proofs.Numbers.{number-cong}
use Rattle.laws.proofs.Scans.{first_cong, first-at}
use Rattle.laws.proofs.Lists.{join-cong}
use Rattle.laws.proofs.Lay.{Whole, rec-past}
use Rattle.demands.proofs.SoundKept.Freed.{text_of}
use Rattle.demands.proofs.Mending.Part.{Alike, equal, counts}

-- the file of heading h is in s what and where it is in t
pub record Held (h : ℕ) (t s : List ℕ) : Type 0 where
  pub long : length s ≡ length t
  -- every byte of the heading but 12-15
  pub front : take 12 (rec s h) ≡ take 12 (rec t h)
  pub back : drop 16 (rec s h) ≡ drop 16 (rec t h)
  -- a record that is text of h in one of them is the same in both
  pub texts : (i : ℕ) → (text_of h (rec t i) ≡ true) ⊎ (text_of h (rec s i) ≡ true) → rec s i ≡ rec t i

-- a heading alike but for its counts
pub alike-front : (x r : List ℕ) → Alike x r → take 12 r ≡ take 12 x
alike-front x r (equal e) = rw e
alike-front x r (counts b) = b.front

pub alike-back : (x r : List ℕ) → Alike x r → drop 16 r ≡ drop 16 x
alike-back x r (equal e) = rw e
alike-back x r (counts b) = b.back

pub held-refl : (h : ℕ) (t : List ℕ) → Held h t t
held-refl h t = record { long = refl; front = refl; back = refl; texts = λ _ _. refl }

pub held-trans : (h : ℕ) (t m s : List ℕ) → Held h t m → Held h m s → Held h t s
held-trans h t m s a b =
    record { long = b.long ∙ a.long; front = b.front ∙ a.front; back = b.back ∙ a.back; texts = go }
  where
    go : (i : ℕ) → (text_of h (rec t i) ≡ true) ⊎ (text_of h (rec s i) ≡ true) → rec s i ≡ rec t i
    go i (inl e) = let q = a.texts i (inl e) in b.texts i (inl (rw q e)) ∙ q
    go i (inr e) = let q = b.texts i (inr e) in q ∙ a.texts i (inr (rw q at e))

module _ (h : ℕ) (t s : List ℕ) (d : Held h t s) where
  pub held-byte : (j : ℕ) → j < 12 → byte (rec s h) j ≡ byte (rec t h) j
  held-byte j l = sym (get_or-take 12 (rec s h) j 0 l) ∙ rw d.front (get_or-take 12 (rec t h) j 0 l)

  pub held-kind : is_kind 1 (rec s h) ≡ is_kind 1 (rec t h)
  held-kind = rw (held-byte 0 (omega arith))

  pub held_keeps : keeps_text (rec s h) ≡ keeps_text (rec t h)
  unfolding keeps_text
  held_keeps = rw (held-byte 0 (omega arith), held-byte 1 (omega arith), held-byte 5 (omega arith))

  pub held-level : level (rec s h) ≡ level (rec t h)
  held-level = held-byte 2 (omega arith)

  pub held-code : heading_code (rec s h) ≡ heading_code (rec t h)
  held-code = held-byte 3 (omega arith)

  pub held-length : text_length (rec s h) ≡ text_length (rec t h)
  held-length = number-cong 2 (rec s h) (rec t h) 10 10 (λ i l. held-byte (10 + i) (omega arith))

  -- a text's position
  of-text : (p : ℕ) (r : List ℕ) → text_at h p r ≡ true → text_of h r ≡ true
  of-text p r e = and_both (is_kind 3 r) _ (and_left _ _ e) (and_left (eqb (heading_of r) h) _ (and_right (is_kind 3 r) _ e))

  at_same : (p i : ℕ) → text_at h p (rec s i) ≡ text_at h p (rec t i)
  at_same p i =
      same_truth _ _ (λ e. rw (d.texts i (inr (of-text p (rec s i) e))) at e) (λ e. rw (d.texts i (inl (of-text p (rec t i) e))) e)

  found-same : (p : ℕ) → first_below (λ i. text_at h p (rec s i)) (rooms s) ≡ first_below (λ i. text_at h p (rec t i)) (rooms t)
  found-same p = rw d.long (first_cong (λ i. text_at h p (rec s i)) (λ i. text_at h p (rec t i)) (rooms t) (λ i _. at_same p i))

  -- the text at a position, and the whole text: what RDS would write
  block_same : Whole t → (p : ℕ) → held (rec s (text_room s h p)) ≡ held (rec t (text_room t h p))
  unfolding text_room
  block_same w p = rw (found-same p) (go (first_below (λ i. text_at h p (rec t i)) (rooms t)) refl)
    where
      go : (x : Found) → first_below (λ i. text_at h p (rec t i)) (rooms t) ≡ x → held (rec s (place s x)) ≡ held (rec t (place t x))
      go (at i) e = rw (d.texts i (inl (of-text p (rec t i) (first-at (λ i. text_at h p (rec t i)) (rooms t) i e).passes)))
      go nowhere e = rw (rec-past s (rooms s) (rw d.long w) (omega arith), rec-past t (rooms t) w (omega arith))

  pub held-text : Whole t → file_text s h ≡ file_text t h
  unfolding file_text
  held-text w = rw held-length (join-cong _ _ (blocks_of t h) (λ p _. block_same w p))
