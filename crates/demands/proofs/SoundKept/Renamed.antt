-- CHN lays an entry again with another name: the bytes before the name stay, so it stands where it stood and names what it named.
-- The new name is legal and its field is padded by itself; no entry there bore it, so no name stands twice.
use mathlib.Core.Bool.{true}
use mathlib.Core.List.{List}
use mathlib.Core.Path.{◌≡◌, refl, ◌∙◌}
use Prim.Native.Nat.{ℕ, ◌+◌, ◌≤◌, ◌<◌}
use native.Mathlib.Omega.{arith}
use lib.ListN.{length, take, get_or-append}
use lib.Seq.{get_or-take, length-take-le}
use lib.Dec.{leb}
use Rattle.paper.specs.Number.{number_at}
use Rattle.paper.specs.Scan.{nowhere}
use Rattle.paper.specs.Record.{byte, entry_code}
use Rattle.paper.specs.Layout.{name_field, boxed}
use Rattle.paper.specs.Table.{rooms, rec, lay}
use Rattle.paper.specs.Name.{link_name, legal_base}
use Rattle.paper.specs.Entry.{holder, bears, find}
use Rattle.paper.specs.Sound.{implies, is_base}
use Rattle.paper.specs.Effect.{renamed}
use Rattle.laws.proofs.Tests.{not-both, and_left, and_both}
use Rattle.laws.proofs.Numbers.{number-cong}
use Rattle.laws.proofs.Scans.{any_here, first-nowhere}
use Rattle.laws.proofs.Fields.{name-above, name-total, name-there}
use Rattle.laws.proofs.Lay.{length-rec, within}
use Rattle.demands.proofs.Sound.Clauses.{EntryOwn, Own, Sound}
use Rattle.demands.proofs.SoundKept.Alike.{Like, replaced-sound}

module _ (r n : List ℕ) (s : length r ≡ 32) (k : byte r 0 ≡ 2) where
  front : length (take 9 r) ≡ 9
  front = length-take-le 9 r (omega arith)

  byte-same : (j : ℕ) → j < 9 → byte (renamed boxed r n) j ≡ byte r j
  unfolding renamed
  byte-same j l = get_or-append (take 9 r) (name_field boxed n) 0 j (rw front l) ∙ get_or-take 9 r j 0 l

  number_same : (w j : ℕ) → j + w ≤ 9 → number_at w (renamed boxed r n) j ≡ number_at w r j
  number_same w j l = number-cong w (renamed boxed r n) r j j (λ i m. byte-same (j + i) (omega arith))

  pub renamed-like : Like r (renamed boxed r n)
  renamed-like =
      record {
        kind = byte-same 0 (omega arith);
        heading = λ (q : byte r 0 ≡ 1). let z : ⊥ = omega arith in absurd z;
        entry = λ _. record { holder = number_same 2 2 (omega arith); heading = number_same 2 4 (omega arith); user = number_same 3 6 (omega arith) };
        text = λ (q : byte r 0 ≡ 3). let z : ⊥ = omega arith in absurd z;
      }

  pub length-renamed : length (renamed boxed r n) ≡ 32
  unfolding renamed
  length-renamed = name-total (take 9 r) n front

  renamed-own : EntryOwn r → link_name n ≡ true → implies (is_base r) (legal_base n) ≡ true → Own (renamed boxed r n)
  unfolding renamed
  renamed-own o v u =
      let q : byte (renamed boxed r n) 0 ≡ 2 = byte-same 0 (omega arith) ∙ k in
      record {
        kinds = omega arith;
        free = λ (z : byte (renamed boxed r n) 0 ≡ 0). let y : ⊥ = omega arith in absurd y;
        heading = λ (z : byte (renamed boxed r n) 0 ≡ 1). let y : ⊥ = omega arith in absurd y;
        entry = λ _.
            record {
              shape =
                  and_both (leb (entry_code (renamed boxed r n)) 7) _ (rw (byte-same 1 (omega arith)) (and_left (leb (entry_code r) 7) _ o.shape))
                  (name-above (take 9 r) n front);
              user = rw (number_same 2 2 (omega arith), number_same 3 6 (omega arith)) o.user;
              padded = refl;
              legal = rw (name-there (take 9 r) n front v, number_same 2 2 (omega arith)) (and_both (link_name n) _ v u);
            };
        text = λ (z : byte (renamed boxed r n) 0 ≡ 3). let y : ⊥ = omega arith in absurd y;
      }

-- an entry with its new name, legal and borne by none there: the table is sound
pub renamed-sound : (t : List ℕ) (e : ℕ) (n : List ℕ) → Sound t → byte (rec t e) 0 ≡ 2 → link_name n ≡ true → implies (is_base (rec t e)) (legal_base n) ≡ true
    → find boxed t (holder (rec t e)) n ≡ nowhere → Sound (lay t e (renamed boxed (rec t e) n))
unfolding renamed find
renamed-sound t e n c k v u f =
    replaced-sound 65535 t e (renamed boxed (rec t e) n) c l (length-renamed (rec t e) n s k)
    (renamed-like (rec t e) n s k) (renamed-own (rec t e) n s k ((c.own e l).entry k) v u)
    (λ _ j m d x. not-both (any_here (λ i. bears boxed (holder (rec t e)) n (rec t i)) (rooms t) j m (rw (
      number_same (rec t e) n s k 2 2 (omega arith),
      number_same (rec t e) n s k 3 6 (omega arith),
      name-there (take 9 (rec t e)) n (front (rec t e) n s k) v,
    ) at x)) (first-nowhere (λ i. bears boxed (holder (rec t e)) n (rec t i)) (rooms t) f))
  where
    l : e < rooms t
    l = within t e c.whole (omega arith)

    s : length (rec t e) ≡ 32
    s = length-rec t e l
