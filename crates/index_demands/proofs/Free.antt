-- A table of free records is sound, since no clause finds a record of its kind, and its true index has 65,535 in every place.
-- So a box that begins with both begins with a true index.
use mathlib.Core.Bool.{Bool, true, false}
use mathlib.Core.List.{List, []}
use mathlib.Core.Path.{◌≡◌, refl, ◌∙◌}
use Prim.Native.Nat.{ℕ, zero, suc, ◌+◌, ◌*◌, ◌-◌, ◌%◌, ◌≤◌, ◌<◌}
use native.Mathlib.Omega.{arith}
use lib.Dec.{leb}
use lib.ListN.{length, replicate, length-replicate}
use borrow.Author.Tests.{eq-eqb, ne_eqb, le-leb}
use Rattle.paper.specs.Layout.{boxed}
use Rattle.paper.specs.Record.{byte}
use Rattle.paper.specs.Table.{sized, rooms, rec}
use Rattle.paper.specs.Sound.{every, free_as_above, heading_as_above, entry_as_above, text_as_above, holder_there, holders_there, heading_there, headings_there, user_right, users_right, name_padded, names_padded, not_twice, none_twice, is_named, all_named, not_crowded, none_crowded, directory_plain, directories_plain, text_whole, texts_whole, text_in_place, no_other_text, name_legal, names_legal, counts_true, shaped, sound}
use Rattle.paper.specs.Count.{counts_right}
use Rattle.paper.specs.Index.{rank, is_entry, order_by, true_index}
use Rattle.laws.proofs.Tests.{and_both}
use Rattle.laws.proofs.Scans.{all_here}
use Rattle.laws.proofs.Fields.{zero-at, zeros_by}
use Rattle.laws.proofs.Lay.{byte-rec}
use Rattle.laws.proofs.Sound.{untested, above-made, every_here}
use Rattle.index_laws.proofs.Good.{Good, is_true_lem}

-- where none passes, none stands in order
order-none : (k : ℕ → ℕ) (p : ℕ → Bool) (n : ℕ) → ((i : ℕ) → p i ≡ false) → order_by k p n ≡ []
unfolding order_by
order-none k p zero h = refl
order-none k p (suc n) h = rw (h n) (order-none k p n h)

module _ (n : ℕ) (few : n ≤ 2048) where
  abbrev free : List ℕ
  free = replicate (n * 32) 0

  size : length free ≡ n * 32
  size = length-replicate (n * 32) 0

  places : rooms free ≡ n
  places = rw size (omega arith)

  byte-free : (i j : ℕ) → j < 32 → byte (rec free i) j ≡ 0
  byte-free i j l = byte-rec free i j l ∙ zero-at (n * 32) (i * 32 + j)

  none : (k : ℕ) (test : ℕ → List ℕ → Bool) → 0 < k → every k test free ≡ true
  none k test p = every_here k test free (λ i _ q. let z : ⊥ = omega (arith, byte-free i 0 (omega arith)) in absurd z)

  free-shaped : shaped boxed free ≡ true
  unfolding holders_there headings_there users_right names_padded none_twice all_named none_crowded directories_plain texts_whole no_other_text names_legal
  free-shaped =
      untested free (record {
        above = above-made free (record {
          kinds = all_here (λ i. leb (byte (rec free i) 0) 3) (rooms free) (λ i _. le-leb (byte (rec free i) 0) 3 (omega (arith, byte-free i 0 (omega arith))));
          free = every_here 0 free_as_above free (λ i _ _. zeros_by 0 32 (rec free i) (λ j l. byte-free i (0 + j) (omega arith)));
          heading = none 1 heading_as_above (omega arith);
          entry = none 2 (entry_as_above boxed) (omega arith);
          text = none 3 text_as_above (omega arith);
        });
        holders = none 2 (holder_there free) (omega arith);
        headings = none 2 (heading_there free) (omega arith);
        users = none 2 user_right (omega arith);
        padded = none 2 (name_padded boxed) (omega arith);
        twice = none 2 (not_twice boxed free) (omega arith);
        named = none 1 (is_named free) (omega arith);
        crowded = none 2 (not_crowded free) (omega arith);
        plain = none 1 directory_plain (omega arith);
        whole = none 1 (text_whole free) (omega arith);
        other = none 3 (text_in_place free) (omega arith);
        legal = none 2 (name_legal boxed) (omega arith);
      })

  free-sound : sound boxed free ≡ true
  unfolding sound counts_true
  free-sound = and_both (shaped boxed free) _ free-shaped (none 1 (counts_right free) (omega arith))

  free-sized : sized free ≡ true
  free-sized = rw size (and_both _ _ (eq-eqb (n * 32 % 32) 0 (omega arith)) (le-leb (n * 32) 65536 (omega arith)))

  free-index : true_index free ≡ replicate n 65535
  unfolding true_index
  free-index =
      rw (order-none (rank free) (is_entry free) (rooms free) (λ i. ne_eqb (byte (rec free i) 0) 2 (λ (z : byte (rec free i) 0 ≡ 2). omega (arith, byte-free i 0 (omega arith)))), places)
      (let e : n - 0 ≡ n = omega arith in rw e)

  pub free-good : Good free (replicate n 65535)
  free-good = record { sized = free-sized; sound = free-sound; index = rw (← free-index) (is_true_lem free) }
