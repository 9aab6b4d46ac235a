-- A legible table and its conversion are twins, and it has no other twin: an entry's bytes are its first nine and what its name lays, so that moved
-- by B it is the one record that shows the same. So converting back gives the table, and whatever twins have in common, a table and its conversion have.
use mathlib.Core.Bool.{Bool, true, false, cond}
use mathlib.Core.List.{List, ◌++◌}
use mathlib.Core.Logic.{◌≢◌, by_cases}
use mathlib.Core.Path.{◌≡◌, refl, sym, ap, ◌∙◌}
use Prim.Native.Nat.{ℕ, ◌<◌}
use native.Mathlib.Omega.{arith}
use native.Mathlib.Decide.{ℕ_discrete}
use lib.ListN.{length, get_or, take, drop, length-take, take-append-drop}
use lib.Seq.{get_or-take, take_at}
use borrow.Author.Tests.{eq-eqb, ne_eqb}
use Rattle.paper.specs.Record.{byte, is_kind}
use Rattle.paper.specs.Layout.{Layout, name_of}
use Rattle.paper.specs.Table.{rooms, rec}
use Rattle.paper.specs.Name.{link_name}
use Rattle.paper.specs.Store.{fills}
use Rattle.paper.specs.Sound.{sound}
use Rattle.paper.specs.Effect.{renamed}
use Rattle.paper.specs.Convert.{moved, converted}
use Rattle.laws.proofs.Lay.{Whole, length-rec, ext-table}
use Rattle.laws.proofs.Runs.{length_run}
use Rattle.laws.proofs.Fills.{rec-filled}
use Rattle.layouts.proofs.Lawful.{Laid, Lawful}
use Rattle.layouts.proofs.Twin.{Twin, plain, entry}
use Rattle.layouts.proofs.Twins.{Twins, twin-size, twins-by, whole-other}
use Rattle.layouts.proofs.Sound.{sound-twin}

-- an entry's bytes past the ninth are what L lays of a link name
pub record Reads (L : Layout) (r : List ℕ) : Type 0 where
  pub name : List ℕ
  pub link : link_name name ≡ true
  pub bytes : drop 9 r ≡ L.field name

-- .. so every entry's of a table
abbrev pub Legible : Layout → List ℕ → Type 0
Legible L t = (i : ℕ) → i < rooms t → byte (rec t i) 0 ≡ 2 → Reads L (rec t i)

-- ---- twins, either way round

twin-back : {A B : Layout} {r q : List ℕ} → Twin A B r q → Twin B A q r
twin-back (plain n e) = plain (rw e at n) (sym e)
twin-back {A} {B} {r} {q} (entry name k e x y) =
    let z : byte q 0 ≡ 2 = sym (get_or-take 9 q 0 0 (omega arith)) ∙ ap (λ (l : List ℕ). get_or l 0 0) (sym e) ∙ get_or-take 9 r 0 0 (omega arith) ∙ k in
    entry name z (sym e) y x

pub twins-back : {A B : Layout} {t s : List ℕ} → Twins A B t s → Twins B A s t
twins-back w = record { size = sym w.size; whole = whole-other w; each = λ i. twin-back (w.each i) }

-- both are legible
pub twins-legible : {A B : Layout} {t s : List ℕ} → Twins A B t s → Legible A t
twins-legible {A} {B} {t} {s} w i l k = go (w.each i)
  where
    go : Twin A B (rec t i) (rec s i) → Reads A (rec t i)
    go (plain n e) = absurd (n k)
    go (entry name k e x y) = record { name = name; link = x.link; bytes = x.bytes }

-- a record has one twin
one-twin : {A B : Layout} {r q p : List ℕ} → Twin A B r q → Twin A B r p → q ≡ p
one-twin (plain n e) (plain m f) = sym e ∙ f
one-twin (plain n e) (entry name k f x y) = absurd (n k)
one-twin (entry name k e x y) (plain m f) = absurd (m k)
one-twin {A} {B} {r} {q} {p} (entry name k e x y) (entry other l f u v) =
    let n : name ≡ other = sym x.borne ∙ u.borne in
    let d : drop 9 q ≡ drop 9 p = y.bytes ∙ ap (λ (m : List ℕ). B.field m) n ∙ sym v.bytes in
    sym (take-append-drop 9 q) ∙ rw (← e, f, d) (take-append-drop 9 p)

pub one-twins : {A B : Layout} {t s p : List ℕ} → Twins A B t s → Twins A B t p → s ≡ p
one-twins {A} {B} {t} {s} {p} w v = ext-table s p (sym w.size ∙ v.size) (whole-other w) (λ i _. one-twin (w.each i) (v.each i))

-- ---- the conversion

module _ {A B : Layout} (a : Lawful A) (b : Lawful B) where
  -- an entry that reads, moved
  moved-twin : (r : List ℕ) → length r ≡ 32 → (byte r 0 ≡ 2 → Reads A r) → Twin A B r (moved A B r)
  unfolding moved renamed
  moved-twin r e h =
      by_cases (ℕ_discrete (byte r 0) 2)
      (λ (k : byte r 0 ≡ 2). rw (eq-eqb (byte r 0) 2 k) (reads k (h k)))
      (λ (k : byte r 0 ≢ 2). rw (ne_eqb (byte r 0) 2 k) (plain k refl))
    where
      reads : byte r 0 ≡ 2 → Reads A r → Twin A B r (take 9 r ++ B.field (A.borne r))
      reads k x =
          let n : length (take 9 r) ≡ 9 = rw length-take (omega arith) in
          let q : take 9 r ++ A.field x.name ≡ r = rw (← x.bytes) (take-append-drop 9 r) in
          let y : Laid A x.name r = rw q at (a.lays (take 9 r) x.name n x.link) in
          rw y.borne (entry x.name k (sym (take_at (take 9 r) (B.field x.name) 9 n)) y (b.lays (take 9 r) x.name n x.link))

  pub converted-twins : (t : List ℕ) → Whole t → Legible A t → Twins A B t (converted A B t)
  unfolding converted
  converted-twins t w h =
      twins-by (sym (length_run t (fills (λ i. is_kind 2 (rec t i)) (λ i. moved A B (rec t i)) (rooms t)))) w
      (λ i l. rw (rec-filled t (λ i. is_kind 2 (rec t i)) (λ i. moved A B (rec t i)) (λ j m. twin-size (one j m) (length-rec t j m)) i l, kept i) (one i l))
    where
      one : (i : ℕ) → i < rooms t → Twin A B (rec t i) (moved A B (rec t i))
      one i l = moved-twin (rec t i) (length-rec t i l) (h i l)

      kept : (i : ℕ) → cond (is_kind 2 (rec t i)) (moved A B (rec t i)) (rec t i) ≡ moved A B (rec t i)
      kept i = unfold moved in go (is_kind 2 (rec t i)) (renamed B (rec t i) (name_of A (rec t i))) (rec t i)
        where
          go : (c : Bool) (x y : List ℕ) → cond c (cond c x y) y ≡ cond c x y
          go true x y = refl
          go false x y = refl

  -- whatever is a twin is the conversion
  pub is-converted : (t s : List ℕ) → Twins A B t s → s ≡ converted A B t
  is-converted t s w = one-twins w (converted-twins t w.whole (twins-legible w))

  -- "on a legible table": sound together
  pub sound-converted : (t : List ℕ) → Whole t → Legible A t → sound A t ≡ sound B (converted A B t)
  sound-converted t w h = sound-twin (converted-twins t w h)

-- "Converting .. and back loses nothing"
pub there_and_back : {A B : Layout} → Lawful A → Lawful B → (t : List ℕ) → Whole t → Legible A t → converted B A (converted A B t) ≡ t
there_and_back {A} {B} a b t w h = sym (is-converted b a (converted A B t) t (twins-back (converted-twins a b t w h)))
