-- One byte more is held where there is room for it; where there is none, the first bytes are as before.
use mathlib.Core.Bool.{true, false, cond}
use mathlib.Core.List.{List, [], ◌∷◌, ◌++◌}
use mathlib.Core.Logic.{◌⊎◌, inl, inr}
use mathlib.Core.Path.{◌≡◌, sym, ◌∙◌}
use Prim.Native.Nat.{ℕ, ◌+◌, ◌≤◌, ◌<◌, min}
use native.Mathlib.Omega.{arith}
use native.Mathlib.Numerals.{add-one}
use lib.Dec.{ltb}
use lib.ListN.{length, set, length-set, length-append, length-take}
use lib.Seq.{take_all, take-suc-set, take-append-le, set_out, take-nil}
use borrow.Author.Tests.{ltb-true, ltb-false}
use Rattle.laws.proofs.Tests.{truth}
use Rattle.filebox.specs.Shows.{Holds}

module _ (most : ℕ) (s : List ℕ) (n : ℕ) (w : List ℕ) (b : ℕ) (h : Holds most s n w) where
  keep-inside : n < most → Holds most (set s n b) (n + 1) (w ++ b ∷ [])
  keep-inside l =
      let c : n ≡ min most (length w) = h.count ∙ length-take most w in
      let e : n ≡ length w = omega arith in
      let f : length (w ++ b ∷ []) ≡ n + 1 = length-append w (b ∷ []) ∙ omega arith in
      let r : length s ≡ most = h.room in
      record {
        room = length-set s n b ∙ h.room;
        count = rw (take_all most (w ++ b ∷ []) (omega arith)) (sym f);
        bytes = rw (take_all most (w ++ b ∷ []) (omega arith), add-one, take-suc-set s n b (omega arith), h.bytes, take_all most w (omega arith));
      }

  keep-full : most ≤ n → Holds most (set s n b) n (w ++ b ∷ [])
  keep-full l =
      let c : n ≡ min most (length w) = h.count ∙ length-take most w in
      let r : length s ≡ most = h.room in
      record {
        room = length-set s n b ∙ h.room;
        count = rw (take-append-le most w (b ∷ []) (omega arith)) h.count;
        bytes = rw (set_out s n b (omega arith), take-append-le most w (b ∷ []) (omega arith)) h.bytes;
      }

  pub keeps : Holds most (set s n b) (cond (ltb n (length s)) (n + 1) n) (w ++ b ∷ [])
  keeps = rw h.room (go (truth (ltb n most)))
    where
      go : (ltb n most ≡ true) ⊎ (ltb n most ≡ false) → Holds most (set s n b) (cond (ltb n most) (n + 1) n) (w ++ b ∷ [])
      go (inl e) = rw e (keep-inside (ltb-true n most e))
      go (inr e) = rw e (keep-full (ltb-false n most e))

-- nothing is held
pub holds-none : (most : ℕ) (s : List ℕ) → length s ≡ most → Holds most s 0 []
holds-none most s r = record { room = r; count = rw (take-nil {A = ℕ} most); bytes = rw (take-nil {A = ℕ} most) }
