-- The table at an entry's store: a sound one, or one with a new file besides, whose heading starts with both counts at 0. Its counts are true,
-- its headings that are no directories have zeros in bytes 14-15, and the record that the entry goes to is free or the entry displaced.
use mathlib.Core.Bool.{true}
use mathlib.Core.List.{List, [], ◌∷◌}
use mathlib.Core.Logic.{◌≢◌, by_cases}
use mathlib.Core.Path.{◌≡◌, refl, ◌∙◌}
use Prim.Native.Nat.{ℕ, ◌+◌, ◌<◌}
use native.Mathlib.Omega.{arith}
use native.Mathlib.Decide.{ℕ_discrete}
use lib.ListN.{length, get_or, take, drop, length-take, length-drop}
use lib.Seq.{ext_get_or, get_or-take, get_or-drop}
use lib.Dec.{eqb}
use borrow.Author.Tests.{eqb-true}
use Rattle.paper.specs.Number.{number_at, bytes_of}
use Rattle.paper.specs.Record.{byte, two, heading_type, heading_record, zeros}
use Rattle.paper.specs.Table.{rooms, rec, frees, room}
use Rattle.paper.specs.Sound.{counts_true}
use Rattle.paper.specs.Store.{Store, run}
use Rattle.paper.specs.Effect.{new_file}
use Rattle.laws.proofs.Tests.{not-both}
use Rattle.laws.proofs.Scans.{all_true}
use Rattle.laws.proofs.Numbers.{number-two}
use Rattle.laws.proofs.Entries.{typed-by}
use Rattle.laws.proofs.Lay.{length-rec}
use Rattle.laws.proofs.Rooms.{room-kind}
use Rattle.laws.proofs.Runs.{rooms-run}
use Rattle.demands.proofs.Sound.Clauses.{Sound, heading-fields}
use Rattle.demands.proofs.Sound.Right.{Right}
use Rattle.demands.proofs.SoundKept.Grown.{Grown, grown-none}
use Rattle.demands.proofs.SoundKept.Filed.{Roomy, Look, new-heading, new-text, old, look, text-kind, text_new, heading-there, length-file, still-free, filed-grown}
use Rattle.demands.proofs.Recounting.Before.{filed-counts}
use Rattle.placing.proofs.Moving.{Plain}

-- ---- bytes 14-15

two_bytes : (r : List ℕ) → length r ≡ 32 → take 2 (drop 14 r) ≡ byte r 14 ∷ byte r 15 ∷ []
two_bytes r l = ext_get_or 0 (take 2 (drop 14 r)) (byte r 14 ∷ byte r 15 ∷ []) size at
  where
    size : length (take 2 (drop 14 r)) ≡ 2
    size = simp (length-take, length-drop) (omega arith)

    at : (j : ℕ) → j < length (take 2 (drop 14 r)) → get_or (take 2 (drop 14 r)) j 0 ≡ get_or (byte r 14 ∷ byte r 15 ∷ []) j 0
    at j m =
        by_cases (ℕ_discrete j 0)
        (λ (e : j ≡ 0). rw e (get_or-take 2 (drop 14 r) 0 0 (omega arith) ∙ rw get_or-drop))
        (λ (e : j ≢ 0). let q : j ≡ 1 = omega (arith, size) in rw q (get_or-take 2 (drop 14 r) 1 0 (omega arith) ∙ rw get_or-drop))

-- a simple file of a sound table has zeros there
sound-plain : (t : List ℕ) → Sound t → (i : ℕ) → i < rooms t → Plain (rec t i)
unfolding zeros bytes_of
sound-plain t c i l k d =
    let f = heading-fields (rec t i) ((c.own i l).heading k) in
    let q : heading_type (rec t i) ≢ 0 = λ (z : heading_type (rec t i) ≡ 0). not-both (typed-by 0 (rec t i) k z) d in
    let z = f.file (omega (arith, f.type)) in
    let a : byte (rec t i) 14 ≡ 0 = eqb-true _ _ (all_true (λ j. eqb (byte (rec t i) (14 + j)) 0) 2 0 (omega arith) z) in
    let b : byte (rec t i) 15 ≡ 0 = eqb-true _ _ (all_true (λ j. eqb (byte (rec t i) (14 + j)) 0) 2 1 (omega arith) z) in
    let n : two (rec t i) 14 ≡ 0 = number-two (rec t i) 14 ∙ omega arith in
    two_bytes (rec t i) (length-rec t i l) ∙ rw (n, a, b)

-- .. and so has a new heading
new-plain : (type lev code life n : ℕ) → Plain (heading_record type lev code life n)
unfolding heading_record bytes_of number_at
new-plain type lev code life n k d = refl

-- ---- the stores before an entry that names heading k

pub record Before (t : List ℕ) (first : List Store) (k : ℕ) : Type 0 where
  pub grown : Grown t (run t first)
  pub counts : counts_true (run t first) ≡ true
  pub plain : (i : ℕ) → i < rooms (run t first) → Plain (rec (run t first) i)
  pub named : byte (rec (run t first) k) 0 ≡ 1
  pub next : length first < length (frees t) → byte (rec (run t first) (room t (length first))) 0 ≡ 0

-- none, before an entry of a file that is there
pub before-none : (t : List ℕ) → Right t → (k : ℕ) → byte (rec t k) 0 ≡ 1 → Before t [] k
unfolding run
before-none t c k e =
    record { grown = grown-none t; counts = c.counts; plain = sound-plain t c.clauses; named = e; next = room-kind t 0 }

-- those of a new file
module _ (t : List ℕ) (type lev code life n : ℕ) (text : List ℕ) (c : Right t) (w : Roomy t (heading_record type lev code life n) text) where
  abbrev head : List ℕ
  head = heading_record type lev code life n

  file-plain : (i : ℕ) → i < rooms (run t (new_file t head text)) → Plain (rec (run t (new_file t head text)) i)
  file-plain i l = go (rw rooms-run at l) (look t head text w i (rw rooms-run at l))
    where
      go : i < rooms t → Look t head text i → Plain (rec (run t (new_file t head text)) i)
      go m (old q) = rw q (sound-plain t c.clauses i m)
      go m (new-heading e q) = rw q (new-plain type lev code life n)
      go m (new-text p b e q) =
          rw q (λ (k : byte (text_new t text p) 0 ≡ 1) _. let z : ⊥ = omega (arith, text-kind t head text w p) in absurd z)

  pub before-file : Before t (new_file t head text) (room t 0)
  before-file =
      record {
        grown = filed-grown t head text w c.clauses.few;
        counts = filed-counts t type lev code life n text c w;
        plain = file-plain;
        named = rw (heading-there t head text w) w.kind;
        next = λ l. still-free t head text w (length (new_file t head text)) (omega (arith, length-file t head text)) l;
      }
