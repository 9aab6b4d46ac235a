-- "The pen stays capped": only DPR and `WRS*` lay a heading again but for its counts, and ask write of the joined code; only a heading that
-- no entry names is cleared, by a sweep too, and text goes after its heading alone. So a capped heading that is one after every call is held with
-- its text, call by call.
use mathlib.Core.Bool.{true}
use mathlib.Core.List.{List, [], ◌∷◌}
use mathlib.Core.Logic.{◌⊎◌, inl, inr}
use mathlib.Core.Path.{◌≡◌, ◌∙◌}
use Prim.Native.Nat.{ℕ, ◌≤◌}
use native.Mathlib.Omega.{arith}
use borrow.Author.Tests.{eqb-true}
use Rattle.paper.specs.Record.{byte, level, heading_code, text_length}
use Rattle.paper.specs.Layout.{boxed}
use Rattle.paper.specs.Table.{sized, rec}
use Rattle.paper.specs.Code.{no_write}
use Rattle.paper.specs.Block.{file_text}
use Rattle.paper.specs.Sound.{sound}
use Rattle.paper.specs.Mend.{keeps_text}
use Rattle.paper.specs.Answer.{requested}
use Rattle.laws.proofs.Tests.{and_left, and_right}
use Rattle.laws.proofs.Lay.{within}
use Rattle.demands.proofs.Sound.Right.{Right, sound-right}
use Rattle.demands.proofs.SoundKept.Freed.{text_of}
use Rattle.demands.proofs.Mending.Part.{Alike}
use Rattle.demands.proofs.Mending.Debris.{sound-keeps}
use Rattle.histories.specs.History.{Call, asks, mends, sweeps, called, cut_at, after, heads, remains}
use Rattle.histories.proofs.Calls.Stores.{less-stays, less-same}
use Rattle.histories.proofs.Calls.Held.{Held, alike-front, alike-back, held-refl, held-trans, held-kind, held_keeps, held-level, held-code, held-length, held-text}
use Rattle.histories.proofs.Calls.Moved.{text-of}
use Rattle.histories.proofs.Calls.Requests.{request-moved}
use Rattle.histories.proofs.Calls.Tidied.{Tidied}
use Rattle.histories.proofs.Calls.Mends.{mend-tidied}
use Rattle.histories.proofs.Calls.Sweeps.{sweep-tidied}
use Rattle.histories.proofs.Calls.Mendable.{Mendable, mendable-whole, sound-mendable, Asked, refused, entered, how-asked, called-mendable, after-mendable}
use Rattle.histories.proofs.BetweenStores.{heads-between}

-- only a heading that keeps text has any
abbrev Owned : ℕ → List ℕ → Type 0
Owned h t = (i : ℕ) → text_of h (rec t i) ≡ true → keeps_text (rec t h) ≡ true

tidied-held : (h : ℕ) (t s : List ℕ) → Mendable t → Tidied t s → Owned h t → byte (rec t h) 0 ≡ 1 → byte (rec s h) 0 ≡ 1 → Held h t s
tidied-held h t s m d o k z =
    record { long = d.less.long; front = alike-front (rec t h) (rec s h) same-h; back = alike-back (rec t h) (rec s h) same-h; texts = texts }
  where
    same-h : Alike (rec t h) (rec s h)
    same-h = less-stays t s (mendable-whole t m) d.less h (omega arith)

    texts : (i : ℕ) → (text_of h (rec t i) ≡ true) ⊎ (text_of h (rec s i) ≡ true) → rec s i ≡ rec t i
    texts i (inl x) = d.texts h i (o i x) z x
    texts i (inr x) = less-same t s (mendable-whole t m) d.less i 1 (text-of h (rec s i) x).0

-- one call, on any table that mends to a sound one
called-held : (h : ℕ) (t : List ℕ) (c : Call) → Mendable t → Owned h t → heads h t ≡ true → no_write (heading_code (rec t h)) ≡ true
    → heads h (called t c).table ≡ true → Held h t (called t c).table
called-held h t (mends k) m o a w b = tidied-held h t _ m (mend-tidied t (mendable-whole t m) k) o (eqb-true _ _ a) (eqb-true _ _ b)
called-held h t (sweeps k) m o a w b = tidied-held h t _ m (sweep-tidied t (mendable-whole t m) k) o (eqb-true _ _ a) (eqb-true _ _ b)
called-held h t (asks line text reply u k) m o a w b = go (how-asked t line text reply u k)
  where
    go : Asked t line text reply u k → Held h t (requested boxed t line text reply u k).table
    go (refused e) = rw e (held-refl h t)
    go (entered c) = (request-moved t line text reply u k c.clauses).held h (eqb-true _ _ a) w (eqb-true _ _ b)

-- what is promised of the heading h and its file, from t to s
pub record Capped (h : ℕ) (t s : List ℕ) : Type 0 where
  -- byte for byte in their places: the heading but for its counts, and the text records
  pub held : Held h t s
  -- what RDS would write
  pub text : file_text s h ≡ file_text t h
  pub length : text_length (rec s h) ≡ text_length (rec t h)
  pub level : level (rec s h) ≡ level (rec t h)
  pub inhibited : no_write (heading_code (rec s h)) ≡ true

module _ (h : ℕ) (t : List ℕ) (c : Right t) (k : heads h t ≡ true) (w : no_write (heading_code (rec t h)) ≡ true) where
  -- in a sound table text has a heading that keeps it
  owns : Owned h t
  owns i x =
      let y = text-of h (rec t i) x in
      let l = within t i c.clauses.whole (omega (arith, y.0)) in
      rw y.1 at ((sound-keeps t c).texts i l y.0)

  owned : (s : List ℕ) → Held h t s → Owned h s
  owned s d i x = rw (held_keeps h t s d) (owns i (rw (d.texts i (inr x)) at x))

  -- from any table of the history on
  held_on : (cs : List Call) (s : List ℕ) → Mendable s → Held h t s → remains h s cs ≡ true → Held h t (after s cs)
  unfolding after remains
  held_on [] s m d r = d
  held_on (x ∷ cs) s m d r =
      let b = and_left (heads h (called s x).table) _ r in
      held_on cs (called s x).table (called-mendable s x m)
      (held-trans h t s (called s x).table d (called-held h s x m (owned s d) (rw (held-kind h t s d) k) (rw (held-code h t s d) w) b))
      (and_right (heads h (called s x).table) _ r)

  capped : (s : List ℕ) → Held h t s → Capped h t s
  capped s d =
      record {
        held = d;
        text = held-text h t s d c.clauses.whole;
        length = held-length h t s d;
        level = held-level h t s d;
        inhibited = rw (held-code h t s d) w;
      }

-- a sound table, a heading with write inhibited in its own code, any calls after each of which it is a heading: at the end, cut or not,
-- it and its text lie byte for byte where they lay
pub pen-stays : (t : List ℕ) (h : ℕ) (cs : List Call) → sized t ≡ true → sound boxed t ≡ true
    → heads h t ≡ true → no_write (heading_code (rec t h)) ≡ true → remains h t cs ≡ true → Capped h t (after t cs)
pen-stays t h cs a b k w r =
    let c = sound-right t a b in
    capped h t c k w (after t cs) (held_on h t c k w cs t (sound-mendable t c) (held-refl h t) r)

-- .. and so it is between any two stores of a further call, after which it is a heading
pub pen-stays-between : (t : List ℕ) (h : ℕ) (cs : List Call) (c : Call) (j k : ℕ) → sized t ≡ true → sound boxed t ≡ true
    → heads h t ≡ true → no_write (heading_code (rec t h)) ≡ true → remains h t cs ≡ true
    → j ≤ k → heads h (called (after t cs) (cut_at k c)).table ≡ true → Capped h t (called (after t cs) (cut_at j c)).table
pen-stays-between t h cs c j k a b i w r l z =
    let e = sound-right t a b in
    let s : List ℕ = after t cs in
    let m = after-mendable t cs (sound-mendable t e) in
    let d = held_on h t e i w cs t (sound-mendable t e) (held-refl h t) r in
    let n : heads h s ≡ true = held-kind h t s d ∙ i in
    let v : no_write (heading_code (rec s h)) ≡ true = rw (held-code h t s d) w in
    let y = called-held h s (cut_at j c) m (owned h t e i w s d) n v (heads-between s h c j k m n l z) in
    capped h t e i w (called s (cut_at j c)).table (held-trans h t s (called s (cut_at j c)).table d y)
