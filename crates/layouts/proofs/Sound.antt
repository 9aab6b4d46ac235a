-- Twin tables are sound together, each by its layout: clause by clause, what is asked of an entry is asked of its first nine bytes, of its
-- name, which is the same, or of how the name lies, which is right in both; and what is asked of any other record is asked of the same record.
use mathlib.Core.Bool.{Bool, true, false, not}
use mathlib.Core.List.{List}
use mathlib.Core.Logic.{◌≢◌}
use mathlib.Core.Path.{◌≡◌, refl, sym, ap, ◌∙◌}
use Prim.Native.Nat.{ℕ}
use native.Mathlib.Omega.{arith}
use lib.Dec.{leb}
use borrow.Author.Tests.{eqb-true}
use Rattle.paper.specs.Record.{byte, is_kind, simple, text_length, text_at, holder_of, heading_named, heading_of}
use Rattle.paper.specs.Layout.{Layout, name_of}
use Rattle.paper.specs.Table.{rec, sized}
use Rattle.paper.specs.Entry.{Holder, holder, crowd, limit}
use Rattle.paper.specs.Block.{blocks}
use Rattle.paper.specs.Count.{counts_right}
use Rattle.paper.specs.Sound.{implies, every, free_as_above, heading_as_above, entry_as_above, text_as_above, as_above, holder_there, holders_there, heading_there, headings_there, user_right, users_right, name_padded, names_padded, not_twice, none_twice, is_named, all_named, not_crowded, none_crowded, directory_plain, directories_plain, once, text_whole, texts_whole, in_place, text_in_place, no_other_text, name_legal, names_legal, counts_true, shaped, sound}
use Rattle.laws.proofs.Tests.{and_left}
use Rattle.laws.proofs.Scans.{all-cong, any-cong}
use Rattle.layouts.proofs.Twin.{Twin, same_byte, same_number, same-plain, same_name, same_above, same-padded, same_kind, same-directory, same-simple, same_text, same-holder, same-bears}
use Rattle.layouts.proofs.Twins.{Twins, all-twin, count-twin}
use Rattle.layouts.proofs.Shown.{same-rec, crowd-twin, named-twin, right-twin}

-- text in place, by twins of its heading
in-place-twin : {A B : Layout} {h g : List ℕ} → Twin A B h g → (r : List ℕ) → in_place h r ≡ in_place g r
in-place-twin {A} {B} {h} {g} w r = go (simple h) refl
  where
    go : (b : Bool) → simple h ≡ b → in_place h r ≡ in_place g r
    go true e =
        let k : byte h 0 ≡ 1 = eqb-true _ _ (and_left _ _ e) in
        rw (same-plain w (λ z. omega arith))
    go false e = rw (← (same-simple w), e)

module _ {A B : Layout} {t s : List ℕ} (w : Twins A B t s) where
  -- a clause over the records of one kind
  every-twin : (k : ℕ) (p q : ℕ → List ℕ → Bool) → ((i : ℕ) → byte (rec t i) 0 ≡ k → p i (rec t i) ≡ q i (rec s i)) → every k p t ≡ every k q s
  every-twin k p q h =
      all-twin w (λ i r. implies (is_kind k r) (p i r)) (λ i r. implies (is_kind k r) (q i r)) (λ i. go i (is_kind k (rec t i)) refl)
    where
      go : (i : ℕ) (b : Bool) → is_kind k (rec t i) ≡ b → implies (is_kind k (rec t i)) (p i (rec t i)) ≡ implies (is_kind k (rec s i)) (q i (rec s i))
      go i true e = rw (← (same_kind (w.each i) k), e) (h i (eqb-true _ _ e))
      go i false e = rw (← (same_kind (w.each i) k), e)

  -- .. other than entries
  plain-twin : (k : ℕ) (p q : ℕ → List ℕ → Bool) → k ≢ 2 → ((i : ℕ) → p i (rec s i) ≡ q i (rec s i)) → every k p t ≡ every k q s
  plain-twin k p q n h = every-twin k p q (λ i e. rw (same-rec w i (λ z. n (sym e ∙ z))) (h i))

  above-twin : as_above A t ≡ as_above B s
  unfolding as_above
  above-twin =
      rw (
        all-twin w (λ i r. leb (byte r 0) 3) (λ i r. leb (byte r 0) 3) (λ i. rw (same_byte (w.each i) 0 (omega arith))),
        plain-twin 0 free_as_above free_as_above (λ z. omega arith) (λ i. refl),
        plain-twin 1 heading_as_above heading_as_above (λ z. omega arith) (λ i. refl),
        every-twin 2 (entry_as_above A) (entry_as_above B) (λ i e. rw (same_byte (w.each i) 1 (omega arith), same_above (w.each i) e)),
        plain-twin 3 text_as_above text_as_above (λ z. omega arith) (λ i. refl),
      )

  holders-twin : holders_there t ≡ holders_there s
  unfolding holders_there
  holders-twin =
      every-twin 2 (holder_there t) (holder_there s) (λ i e.
      let h : holder_of (rec t i) ≡ holder_of (rec s i) = same_number (w.each i) 2 2 (omega arith) in
      rw (h, same-directory (w.each (holder_of (rec s i)))))

  headings-twin : headings_there t ≡ headings_there s
  unfolding headings_there
  headings-twin =
      every-twin 2 (heading_there t) (heading_there s) (λ i e.
      let h : heading_named (rec t i) ≡ heading_named (rec s i) = same_number (w.each i) 2 4 (omega arith) in
      rw (h, same_kind (w.each (heading_named (rec s i))) 1))

  users-twin : users_right t ≡ users_right s
  unfolding users_right
  users-twin =
      every-twin 2 user_right user_right (λ i e. rw (same_number (w.each i) 2 2 (omega arith), same_number (w.each i) 3 6 (omega arith)))

  padded-twin : names_padded A t ≡ names_padded B s
  unfolding names_padded
  padded-twin = every-twin 2 (name_padded A) (name_padded B) (λ i e. same-padded (w.each i) e)

  twice-twin : none_twice A t ≡ none_twice B s
  unfolding none_twice
  twice-twin =
      every-twin 2 (not_twice A t) (not_twice B s) (λ i e.
      rw (same-holder (w.each i), same_name (w.each i) e)
      (ap not (any-cong _ _ i (λ j _. same-bears (w.each j) (holder (rec s i)) (name_of B (rec s i))))))

  all-named-twin : all_named t ≡ all_named s
  unfolding all_named
  all-named-twin = plain-twin 1 (is_named t) (is_named s) (λ z. omega arith) (λ i. named-twin w i)

  crowded-twin : none_crowded t ≡ none_crowded s
  unfolding none_crowded
  crowded-twin =
      every-twin 2 (not_crowded t) (not_crowded s) (λ i e.
      rw (crowd-twin w (holder (rec t i))) (ap (λ (d : Holder). leb (crowd s d) (limit d)) (same-holder (w.each i))))

  directories-twin : directories_plain t ≡ directories_plain s
  unfolding directories_plain
  directories-twin = plain-twin 1 directory_plain directory_plain (λ z. omega arith) (λ i. refl)

  texts-twin : texts_whole t ≡ texts_whole s
  unfolding texts_whole
  texts-twin =
      plain-twin 1 (text_whole t) (text_whole s) (λ z. omega arith) (λ i.
      rw (all-cong (once t i) (once s i) (blocks (text_length (rec s i)))
      (λ p _. rw (count-twin w (λ _. text_at i p) (λ _. text_at i p) (λ j. same_text (w.each j) i p)))))

  other-twin : no_other_text t ≡ no_other_text s
  unfolding no_other_text
  other-twin = plain-twin 3 (text_in_place t) (text_in_place s) (λ z. omega arith) (λ i. in-place-twin (w.each (heading_of (rec s i))) (rec s i))

  legal-twin : names_legal A t ≡ names_legal B s
  unfolding names_legal
  legal-twin =
      every-twin 2 (name_legal A) (name_legal B) (λ i e. rw (same_name (w.each i) e, same_number (w.each i) 2 2 (omega arith)))

  counts-twin : counts_true t ≡ counts_true s
  unfolding counts_true
  counts-twin = plain-twin 1 (counts_right t) (counts_right s) (λ z. omega arith) (λ i. right-twin w i (rec s i))

  pub sound-twin : sound A t ≡ sound B s
  unfolding sound shaped
  sound-twin =
      rw (
        above-twin,
        holders-twin,
        headings-twin,
        users-twin,
        padded-twin,
        twice-twin,
        all-named-twin,
        crowded-twin,
        directories-twin,
        texts-twin,
        other-twin,
        legal-twin,
        counts-twin,
      )

  pub sized-twin : sized t ≡ sized s
  sized-twin = rw w.size
