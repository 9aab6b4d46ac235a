-- DPR lays a heading again with another code: every other byte stays, so its type, lifetime and text length do.
-- No other record goes by a heading's code, and a code of 0 to 7 is all that the heading owes for it.
use mathlib.Core.Bool.{true}
use mathlib.Core.List.{List}
use mathlib.Core.Logic.{◌≢◌}
use mathlib.Core.Path.{◌≡◌, ◌∙◌}
use Prim.Native.Nat.{ℕ, ◌+◌, ◌≤◌, ◌<◌}
use native.Mathlib.Omega.{arith}
use lib.ListN.{length, length-set}
use lib.Seq.{get_or-set_same, get_or-set_other}
use lib.Dec.{leb}
use borrow.Author.Tests.{le-leb}
use Rattle.paper.specs.Record.{byte, heading_code, text_length, zeros}
use Rattle.paper.specs.Table.{rec, lay}
use Rattle.paper.specs.Effect.{recoded}
use Rattle.laws.proofs.Numbers.{number-cong}
use Rattle.laws.proofs.Scans.{all-cong}
use Rattle.laws.proofs.Lay.{length-rec, within}
use Rattle.demands.proofs.Sound.Clauses.{HeadingOwn, Own, heading-fields, Sound}
use Rattle.demands.proofs.SoundKept.Alike.{Like, replaced-sound}

module _ (r : List ℕ) (code : ℕ) (s : length r ≡ 32) (k : byte r 0 ≡ 1) where
  pub byte-same : (j : ℕ) → j ≢ 3 → byte (recoded r code) j ≡ byte r j
  unfolding recoded
  byte-same j d = get_or-set_other r 3 j code 0 d

  code-new : heading_code (recoded r code) ≡ code
  unfolding recoded
  code-new = get_or-set_same r 3 code 0 (omega arith)

  length-same : text_length (recoded r code) ≡ text_length r
  length-same = number-cong 2 (recoded r code) r 10 10 (λ i l. byte-same (10 + i) (λ (z : 10 + i ≡ 3). omega arith))

  zeros-same : (j n : ℕ) → 3 < j → zeros j n (recoded r code) ≡ zeros j n r
  unfolding zeros
  zeros-same j n l = all-cong _ _ n (λ i b. rw (byte-same (j + i) (λ (z : j + i ≡ 3). omega arith)))

  pub length-recoded : length (recoded r code) ≡ 32
  unfolding recoded
  length-recoded = length-set r 3 code ∙ s

  pub recoded-like : Like r (recoded r code)
  recoded-like =
      record {
        kind = byte-same 0 (omega arith);
        heading = λ _. record { type = byte-same 1 (omega arith); length = length-same };
        entry = λ (q : byte r 0 ≡ 2). let z : ⊥ = omega arith in absurd z;
        text = λ (q : byte r 0 ≡ 3). let z : ⊥ = omega arith in absurd z;
      }

  recoded-own : code ≤ 7 → HeadingOwn r → Own (recoded r code)
  recoded-own b o =
      let q : byte (recoded r code) 0 ≡ 1 = byte-same 0 (omega arith) ∙ k in
      record {
        kinds = omega arith;
        free = λ (z : byte (recoded r code) 0 ≡ 0). let y : ⊥ = omega arith in absurd y;
        heading = λ _.
            record {
              shape =
                  rw (byte-same 1 (omega arith), byte-same 2 (omega arith), code-new, byte-same 4 (omega arith), byte-same 5 (omega arith), length-same)
                  (rw (zeros-same 6 4 (omega arith), zeros-same 14 2 (omega arith), zeros-same 16 16 (omega arith), le-leb code 7 b)
                  (rw code-old at o.shape));
              directory = rw (byte-same 1 (omega arith), byte-same 4 (omega arith), length-same) o.directory;
              simple = rw (byte-same 1 (omega arith), length-same) o.simple;
            };
        entry = λ (z : byte (recoded r code) 0 ≡ 2). let y : ⊥ = omega arith in absurd y;
        text = λ (z : byte (recoded r code) 0 ≡ 3). let y : ⊥ = omega arith in absurd y;
      }
    where
      code-old : leb (heading_code r) 7 ≡ true
      code-old = le-leb _ _ (heading-fields r o).code

-- a heading with its new code: the table is sound
pub recoded-sound : (t : List ℕ) (h code : ℕ) → Sound t → byte (rec t h) 0 ≡ 1 → code ≤ 7 → Sound (lay t h (recoded (rec t h) code))
unfolding recoded
recoded-sound t h code c k b =
    let l = within t h c.whole (omega arith) in
    let s = length-rec t h l in
    replaced-sound 65535 t h (recoded (rec t h) code) c l (length-recoded (rec t h) code s k) (recoded-like (rec t h) code s k)
    (recoded-own (rec t h) code s k b ((c.own h l).heading k))
    (λ (z : byte (recoded (rec t h) code) 0 ≡ 2). let y : ⊥ = omega (arith, byte-same (rec t h) code s k 0 (omega arith)) in absurd y)
