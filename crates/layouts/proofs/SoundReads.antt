-- A sound table is legible: its entries pass the tests of their layout and bear link names, and what passes them is what its name lays.
use mathlib.Core.Bool.{true}
use mathlib.Core.List.{List}
use mathlib.Core.Logic.{by_cases}
use mathlib.Core.Path.{◌≡◌}
use Prim.Native.Nat.{ℕ, ◌*◌, ◌+◌, ◌<◌}
use native.Mathlib.Omega.{arith}
use native.Mathlib.Decide.{dec_lt}
use lib.ListN.{get_or-eq_default}
use lib.Dec.{leb}
use Rattle.paper.specs.Record.{entry_code}
use Rattle.paper.specs.Layout.{Layout, name_of, old, six}
use Rattle.paper.specs.Table.{rooms, rec}
use Rattle.paper.specs.Name.{link_name}
use Rattle.paper.specs.Sound.{entry_as_above, name_padded, name_legal, sound}
use Rattle.laws.proofs.Tests.{and_left, and_right}
use Rattle.laws.proofs.Lay.{byte-rec, length-rec}
use Rattle.laws.proofs.Sound.{every_true}
use Rattle.layouts.proofs.Lawful.{Exact, Any, Bytes, old-exact, six-exact}
use Rattle.layouts.proofs.Clauses.{entries-above, names-padded, names-legal}
use Rattle.layouts.proofs.Converted.{Legible}

-- the bytes of a record are the table's
bytes-rec : (t : List ℕ) → Bytes t → (i : ℕ) → i < rooms t → Bytes (rec t i)
bytes-rec t h i l j =
    by_cases (dec_lt j 32) (λ (m : j < 32). rw (byte-rec t i j m) (h (i * 32 + j)))
    (λ (m : ¬ (j < 32)). rw (get_or-eq_default (rec t i) 0 {n = j} (rw (length-rec t i l) (omega arith))) (omega arith))

module _ (L : Layout) (t : List ℕ) (e : sound L t ≡ true) where
  sound-legible : (P : List ℕ → Type 0) → Exact P L → ((i : ℕ) → i < rooms t → P (rec t i)) → Legible L t
  sound-legible P x h i l k =
      let link = and_left (link_name (name_of L (rec t i))) _ (every_true 2 (name_legal L) t (names-legal L t e) i l k) in
      record {
        name = name_of L (rec t i);
        link = link;
        bytes =
            x (rec t i) (length-rec t i l) (h i l)
            (and_right (leb (entry_code (rec t i)) 7) (L.as_above (rec t i)) (every_true 2 (entry_as_above L) t (entries-above L t e) i l k))
            (every_true 2 (name_padded L) t (names-padded L t e) i l k) link;
      }

pub old-legible : (t : List ℕ) → sound old t ≡ true → Legible old t
old-legible t e = sound-legible old t e Any old-exact (λ i l. tt)

pub six-legible : (t : List ℕ) → Bytes t → sound six t ≡ true → Legible six t
six-legible t h e = sound-legible six t e Bytes six-exact (bytes-rec t h)
