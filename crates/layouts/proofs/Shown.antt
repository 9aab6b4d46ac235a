-- What twin tables show alike: each definition that scans a table goes by a test that is the same on twins. What looks past a record's ninth
-- byte, a text length, the bytes of a text or the counts, is asked of a record that is no entry, and that is the same record on both.
use mathlib.Core.Bool.{Bool, true, false}
use mathlib.Core.List.{List}
use mathlib.Core.Logic.{◌≢◌}
use mathlib.Core.Path.{◌≡◌, refl, sym}
use Prim.Native.Nat.{ℕ}
use native.Mathlib.Omega.{arith}
use borrow.Author.Tests.{eqb-true}
use Rattle.paper.specs.Scan.{Found, at, nowhere, first_below}
use Rattle.paper.specs.Record.{byte, is_kind, names, text_at, held, heading_named}
use Rattle.paper.specs.Layout.{Layout}
use Rattle.paper.specs.Table.{rooms, rec, frees, room, place, text_room}
use Rattle.paper.specs.Entry.{Holder, in_directory, stands, bears, find, crowd, full, named, peopled}
use Rattle.paper.specs.Block.{blocks_of, file_text}
use Rattle.paper.specs.Count.{namings, counts_right, recounted, untrue, recounts}
use Rattle.paper.specs.Walk.{applies}
use Rattle.laws.proofs.Tests.{and_left}
use Rattle.laws.proofs.Scans.{first-at}
use Rattle.laws.proofs.Lists.{join-cong}
use Rattle.laws.proofs.Lay.{length-rec, rec-past}
use Rattle.laws.proofs.Recounts.{length-recounted, recounted-kind}
use Rattle.layouts.proofs.Twin.{same_byte, same_number, same-plain, same_kind, same_names, same_text, same-stands, same-bears}
use Rattle.layouts.proofs.Twins.{Twins, Alike, both, any-twin, count-twin, first-twin, list-twin, alike-fills}

module _ {A B : Layout} {t s : List ℕ} (w : Twins A B t s) where
  -- ---- scans

  pub find-twin : (d : Holder) (n : List ℕ) → find A t d n ≡ find B s d n
  unfolding find
  find-twin d n = first-twin w (λ _. bears A d n) (λ _. bears B d n) (λ i. same-bears (w.each i) d n)

  pub crowd-twin : (d : Holder) → crowd t d ≡ crowd s d
  unfolding crowd
  crowd-twin d = count-twin w (λ _. stands d) (λ _. stands d) (λ i. same-stands (w.each i) d)

  pub full-twin : (d : Holder) → full t d ≡ full s d
  full-twin d = rw (crowd-twin d)

  pub named-twin : (h : ℕ) → named t h ≡ named s h
  unfolding named
  named-twin h = any-twin w (λ _. names h) (λ _. names h) (λ i. same_names (w.each i) h)

  pub peopled-twin : (h : ℕ) → peopled t h ≡ peopled s h
  unfolding peopled
  peopled-twin h = any-twin w (λ _. stands (in_directory h)) (λ _. stands (in_directory h)) (λ i. same-stands (w.each i) (in_directory h))

  pub frees-twin : frees t ≡ frees s
  unfolding frees
  frees-twin = list-twin w (λ _. is_kind 0) (λ _. is_kind 0) (λ i. same_kind (w.each i) 0)

  pub room-twin : (m : ℕ) → room t m ≡ room s m
  room-twin m = rw (frees-twin, w.size)

  pub namings-twin : (h : ℕ) → namings t h ≡ namings s h
  unfolding namings
  namings-twin h = count-twin w (λ _. names h) (λ _. names h) (λ i. same_names (w.each i) h)

  pub text_room-twin : (h p : ℕ) → text_room t h p ≡ text_room s h p
  unfolding text_room
  text_room-twin h p =
      rw (first-twin w (λ _. text_at h p) (λ _. text_at h p) (λ i. same_text (w.each i) h p)) (go (first_below (λ i. text_at h p (rec s i)) (rooms s)))
    where
      go : (f : Found) → place t f ≡ place s f
      go (at i) = refl
      go nowhere = rw w.size

  -- ---- one record

  pub applies-twin : (e : ℕ) → applies t e ≡ applies s e
  unfolding applies
  applies-twin e =
      let h : heading_named (rec t e) ≡ heading_named (rec s e) = same_number (w.each e) 2 4 (omega arith) in
      rw (h, same_byte (w.each e) 1 (omega arith), same_byte (w.each (heading_named (rec s e))) 3 (omega arith))

  -- a record that is no entry
  pub same-rec : (i : ℕ) → byte (rec t i) 0 ≢ 2 → rec t i ≡ rec s i
  same-rec i n = same-plain (w.each i) n

  pub blocks-twin : (h : ℕ) → byte (rec t h) 0 ≢ 2 → blocks_of t h ≡ blocks_of s h
  blocks-twin h n = rw (same-rec h n)

  -- a text's record is none
  text-plain : (h p : ℕ) → byte (rec t (text_room t h p)) 0 ≢ 2
  unfolding text_room
  text-plain h p = go (first_below (λ i. text_at h p (rec t i)) (rooms t)) refl
    where
      go : (f : Found) → first_below (λ i. text_at h p (rec t i)) (rooms t) ≡ f → byte (rec t (place t f)) 0 ≢ 2
      go (at i) e k =
          let z : byte (rec t i) 0 ≡ 3 = eqb-true _ _ (and_left _ _ (first-at (λ i. text_at h p (rec t i)) (rooms t) i e).passes) in
          omega arith
      go nowhere e k =
          let z : ◌≡◌ {A = ℕ} 0 2 = rw (rec-past t (rooms t) w.whole (omega arith)) at k in
          omega arith

  pub file_text-twin : (h : ℕ) → byte (rec t h) 0 ≢ 2 → file_text t h ≡ file_text s h
  unfolding file_text
  file_text-twin h n =
      rw (blocks-twin h n)
      (join-cong (λ p. held (rec t (text_room t h p))) (λ p. held (rec s (text_room s h p))) (blocks_of s h)
      (λ p _. rw (same-rec (text_room t h p) (text-plain h p), text_room-twin h p)))

  -- ---- counts

  pub right-twin : (i : ℕ) (r : List ℕ) → counts_right t i r ≡ counts_right s i r
  unfolding counts_right
  right-twin i r = rw (namings-twin i, crowd-twin (in_directory i))

  recounted-twin : (i : ℕ) (r : List ℕ) → recounted t i r ≡ recounted s i r
  unfolding recounted
  recounted-twin i r = rw (namings-twin i, crowd-twin (in_directory i))

  untrue-twin : (i : ℕ) → untrue t i ≡ untrue s i
  untrue-twin i = go (is_kind 1 (rec t i)) refl
    where
      go : (b : Bool) → is_kind 1 (rec t i) ≡ b → untrue t i ≡ untrue s i
      go true e =
          let k : byte (rec t i) 0 ≡ 1 = eqb-true _ _ e in
          rw (same-rec i (λ z. omega arith), right-twin i (rec s i))
      go false e = rw (← (same_kind (w.each i) 1), e)

  pub recounts-twin : Alike A B (recounts t) (recounts s)
  recounts-twin =
      rw (← w.size)
      (alike-fills (untrue t) (untrue s) (λ i. recounted t i (rec t i)) (λ i. recounted s i (rec s i)) (rooms t) (λ i _. untrue-twin i)
      (λ i l e.
      let k : byte (rec t i) 0 ≡ 1 = eqb-true _ _ (and_left _ _ e) in
      let q : recounted s i (rec s i) ≡ recounted t i (rec t i) = rw (← (same-rec i (λ z. omega arith))) (sym (recounted-twin i (rec t i))) in
      rw q (both i (recounted t i (rec t i)) (length-recounted t i (rec t i) (length-rec t i l))
      (λ z. let y : byte (recounted t i (rec t i)) 0 ≡ byte (rec t i) 0 = recounted-kind t i (rec t i) (length-rec t i l) in omega arith))))
