-- One call: what it may do to a heading and its text. A request goes by its plan, cut anywhere; DEL and DST by a plan for each name, all of
-- them clearings; a mend clears headings that no entry names, and text whose heading keeps none.
use mathlib.Core.Bool.{Bool, true, false}
use mathlib.Core.List.{List}
use mathlib.Core.Logic.{◌⊎◌, inl, inr, ◌≢◌, ⊎_elim}
use mathlib.Core.Path.{◌≡◌, refl, sym, ◌∙◌}
use Prim.Native.Nat.{ℕ, ◌<◌}
use native.Mathlib.Omega.{arith}
use lib.ListN.{length}
use lib.Seq.{get_or-set_other}
use borrow.Author.Tests.{eqb-true}
use Rattle.paper.specs.Record.{byte, is_kind, heading_code, heading_of, rewritten, blank}
use Rattle.paper.specs.Table.{rooms, rec}
use Rattle.paper.specs.Code.{no_write}
use Rattle.paper.specs.Entry.{named}
use Rattle.paper.specs.Effect.{recoded}
use Rattle.laws.proofs.Tests.{not-both, and_left, and_right}
use Rattle.laws.proofs.Rewritten.{rewritten-byte}
use Rattle.laws.proofs.Lay.{within, kind-blank}
use Rattle.demands.proofs.Sound.Clauses.{Sound}
use Rattle.demands.proofs.Sound.Points.{text-points}
use Rattle.demands.proofs.SoundKept.Freed.{text_of}
use Rattle.demands.proofs.SoundKept.Retexted.{none, some, mine-not}
use Rattle.demands.proofs.Mending.Part.{Alike, equal, counts}
use Rattle.demands.proofs.Mending.Counts.{but-kind}
use Rattle.histories.proofs.Calls.Stores.{Put, heading, text, entry, cleared, recodes, rewrites, retexts, again, Kept, Of, Open, Left, stored, rid}
use Rattle.histories.proofs.Calls.Held.{Held, alike-front, alike-back}

-- a text record of h, in numbers
pub text-of : (h : ℕ) (r : List ℕ) → text_of h r ≡ true → (byte r 0 ≡ 3) × (heading_of r ≡ h)
text-of h r e = (eqb-true _ _ (and_left _ _ e), eqb-true _ _ (and_right (is_kind 3 r) _ e))

-- from t to s, by a request on the sound table t
pub record Moved (razes : Bool) (t s : List ℕ) : Type 0 where
  pub long : length s ≡ length t
  -- a capped heading that is still one is held, with its text
  pub held : (h : ℕ) → byte (rec t h) 0 ≡ 1 → no_write (heading_code (rec t h)) ≡ true → byte (rec s h) 0 ≡ 1 → Held h t s
  -- a heading that is none any more is named by no entry, or a DST cleared it, and it could be written
  pub last : (h : ℕ) → byte (rec t h) 0 ≡ 1 → byte (rec s h) 0 ≢ 1 → (named s h ≡ false) ⊎ Open razes t h
  -- a heading that was none lies where nothing was, and so does its text
  pub new : (h : ℕ) → byte (rec t h) 0 ≢ 1 → byte (rec s h) 0 ≡ 1 → byte (rec t h) 0 ≡ 0
  pub fresh : (h i : ℕ) → byte (rec t h) 0 ≢ 1 → text_of h (rec s i) ≡ true → byte (rec t i) 0 ≡ 0

pub moved_none : {razes : Bool} (t : List ℕ) → Sound t → Moved razes t t
moved_none t c =
    record {
      long = refl;
      held = λ h _ _ _. record { long = refl; front = refl; back = refl; texts = λ _ _. refl };
      last = λ h k n. absurd (n k);
      new = λ h n k. absurd (n k);
      fresh = λ h i n e.
          let x = text-of h (rec t i) e in
          let l = within t i c.whole (omega (arith, x.0)) in
          absurd (n (rw x.1 at (text-points 65535 t c i l x.0)));
    }

-- ---- a plan's stores, cut anywhere

kind-recoded : (r : List ℕ) (code : ℕ) → byte (recoded r code) 0 ≡ byte r 0
unfolding recoded
kind-recoded r code = get_or-set_other r 3 0 code 0 (omega arith)

kind-rewritten : (r : List ℕ) (mark n : ℕ) → byte (rewritten r mark n) 0 ≡ byte r 0
kind-rewritten r mark n = rewritten-byte r mark n 0 (omega arith, inl (omega arith))

-- a heading laid over stays one
pub put-over : (t : List ℕ) (h : ℕ) (r : List ℕ) → byte (rec t h) 0 ≡ 1 → Put t h r → byte r 0 ≡ 1
put-over t h r k (heading a b) = b
put-over t h r k (text a b d) = let z : ⊥ = omega arith in absurd z
put-over t h r k (entry (inl a) b) = let z : ⊥ = omega arith in absurd z
put-over t h r k (entry (inr a) b) = let z : ⊥ = omega arith in absurd z
put-over t h r k (cleared a b) = let z : ⊥ = omega arith in absurd z
put-over t h r k (recodes code b a w x q) = rw q (kind-recoded (rec t h) code ∙ k)
put-over t h r k (rewrites mark n b a w q) = rw q (kind-rewritten (rec t h) mark n ∙ k)
put-over t h r k (retexts g a w m n) = absurd (mine-not g (rec t h) 1 m (omega arith) (omega arith) k)
put-over t h r k (again b) = but-kind (rec t h) r b ∙ k

module _ (razes : Bool) (t s : List ℕ) (c : Sound t) (e : length s ≡ length t) where
  -- over a capped heading nothing is laid but its counts
  put-capped : (h : ℕ) → byte (rec t h) 0 ≡ 1 → no_write (heading_code (rec t h)) ≡ true → Put t h (rec s h) → Alike (rec t h) (rec s h)
  put-capped h k n (heading a b) = let z : ⊥ = omega arith in absurd z
  put-capped h k n (text a b d) = let z : ⊥ = omega arith in absurd z
  put-capped h k n (entry (inl a) b) = let z : ⊥ = omega arith in absurd z
  put-capped h k n (entry (inr a) b) = let z : ⊥ = omega arith in absurd z
  put-capped h k n (cleared a b) = let z : ⊥ = omega arith in absurd z
  put-capped h k n (recodes code b a w x q) = absurd (not-both n w)
  put-capped h k n (rewrites mark m b a w q) = absurd (not-both n w)
  put-capped h k n (retexts g a w x y) = absurd (mine-not g (rec t h) 1 x (omega arith) (omega arith) k)
  put-capped h k n (again b) = counts b

  -- heading h may be written
  abbrev Free : ℕ → Type 0
  Free h = (byte (rec t h) 0 ≡ 1) × (no_write (heading_code (rec t h)) ≡ false)

  -- over text of h only a rewrite of h lays anything
  put-over-text : (h i : ℕ) → (byte (rec t i) 0 ≡ 3) × (heading_of (rec t i) ≡ h) → Put t i (rec s i) → Free h
  put-over-text h i y (heading a b) = let z : ⊥ = omega (arith, y.0) in absurd z
  put-over-text h i y (text a b d) = let z : ⊥ = omega (arith, y.0) in absurd z
  put-over-text h i y (entry (inl a) b) = let z : ⊥ = omega (arith, y.0) in absurd z
  put-over-text h i y (entry (inr a) b) = let z : ⊥ = omega (arith, y.0) in absurd z
  put-over-text h i y (cleared a b) = let z : ⊥ = omega (arith, y.0) in absurd z
  put-over-text h i y (recodes code b a w x q) = let z : ⊥ = omega (arith, y.0) in absurd z
  put-over-text h i y (rewrites mark n b a w q) = let z : ⊥ = omega (arith, y.0) in absurd z
  put-over-text h i y (retexts g a w (none x) m) = let z : ⊥ = omega (arith, y.0, kind-blank (rec t i) x) in absurd z
  put-over-text h i y (retexts g a w (some x e) m) = let z : g ≡ h = sym e ∙ y.1 in rw (← z) (a, w)
  put-over-text h i y (again b) = let z : ⊥ = omega (arith, y.0, b.kind) in absurd z

  -- text of h that is laid lies in a free record, and so does its heading; or h is rewritten
  put-text : (h i : ℕ) → text_of h (rec s i) ≡ true → Put t i (rec s i) → ((byte (rec t i) 0 ≡ 0) × (byte (rec t h) 0 ≡ 0)) ⊎ Free h
  put-text h i x p = go (text-of h (rec s i) x) p
    where
      go : (byte (rec s i) 0 ≡ 3) × (heading_of (rec s i) ≡ h) → Put t i (rec s i) → ((byte (rec t i) 0 ≡ 0) × (byte (rec t h) 0 ≡ 0)) ⊎ Free h
      go y (heading a b) = let z : ⊥ = omega (arith, y.0) in absurd z
      go y (text a b d) = inl (a, rw y.1 at d)
      go y (entry a b) = let z : ⊥ = omega (arith, y.0) in absurd z
      go y (cleared a b) = let z : ⊥ = omega (arith, y.0, kind-blank (rec s i) b) in absurd z
      go y (recodes code b a w v q) =
          let g : byte (rec s i) 0 ≡ byte (rec t i) 0 = rw q (kind-recoded (rec t i) code) in
          let z : ⊥ = omega (arith, y.0) in absurd z
      go y (rewrites mark n b a w q) =
          let g : byte (rec s i) 0 ≡ byte (rec t i) 0 = rw q (kind-rewritten (rec t i) mark n) in
          let z : ⊥ = omega (arith, y.0) in absurd z
      go y (retexts g a w m (none v)) = let z : ⊥ = omega (arith, y.0, kind-blank (rec s i) v) in absurd z
      go y (retexts g a w m (some v e)) = let z : g ≡ h = sym e ∙ y.1 in inr (rw (← z) (a, w))
      go y (again b) = let z : ⊥ = omega (arith, y.0, but-kind (rec t i) (rec s i) b, b.kind) in absurd z

  -- a heading laid where none was lies on a free record
  put-heading : (h : ℕ) → byte (rec t h) 0 ≢ 1 → byte (rec s h) 0 ≡ 1 → Put t h (rec s h) → byte (rec t h) 0 ≡ 0
  put-heading h n k (heading a b) = a
  put-heading h n k (text a b d) = a
  put-heading h n k (entry a b) = let z : ⊥ = omega arith in absurd z
  put-heading h n k (cleared a b) = let z : ⊥ = omega (arith, kind-blank (rec s h) b) in absurd z
  put-heading h n k (recodes code b a w x q) = absurd (n a)
  put-heading h n k (rewrites mark m b a w q) = absurd (n a)
  put-heading h n k (retexts g a w x y) = absurd (mine-not g (rec s h) 1 y (omega arith) (omega arith) k)
  put-heading h n k (again b) = absurd (n b.kind)

  in-t : (i : ℕ) → byte (rec t i) 0 ≢ 0 → i < rooms t
  in-t i n = within t i c.whole n

  in-s : (i : ℕ) → byte (rec s i) 0 ≢ 0 → i < rooms t
  in-s i n = rw e at (within s i (rw e c.whole) n)

  -- record i is blank, and was of a file whose heading is cleared and that no entry names
  record Gone (i : ℕ) : Type 0 where
    empty : rec s i ≡ blank
    file : ℕ
    of : Of t file i
    heading : byte (rec t file) 0 ≡ 1
    cleared : rec s file ≡ blank
    unnamed : (named s file ≡ false) ⊎ Open razes t file

  module _ (each : (i : ℕ) → i < rooms t → Kept t s i ⊎ Gone i) where
    same-heading : (h : ℕ) → byte (rec t h) 0 ≡ 1 → no_write (heading_code (rec t h)) ≡ true → byte (rec s h) 0 ≡ 1 → Alike (rec t h) (rec s h)
    same-heading h k n z = go (each h (in-t h (omega arith)))
      where
        go : Kept t s h ⊎ Gone h → Alike (rec t h) (rec s h)
        go (inl (inl q)) = equal q
        go (inl (inr p)) = put-capped h k n p
        go (inr g) = let y : ⊥ = omega (arith, kind-blank (rec s h) g.empty) in absurd y

    -- text of h is not gone while h is a heading
    not-of : (h i : ℕ) → byte (rec s h) 0 ≡ 1 → (byte (rec t i) 0 ≡ 3) × (heading_of (rec t i) ≡ h) → Gone i → ⊥
    not-of h i z x g = go g.of
      where
        go : Of t g.file i → ⊥
        go (inl q) = let y : byte (rec t i) 0 ≡ 1 = rw q g.heading in omega (arith, x.0)
        go (inr q) = let y : h ≡ g.file = sym x.1 ∙ q.1 in omega (arith, rw y at z, kind-blank (rec s g.file) g.cleared)

    same_text : (h i : ℕ) → byte (rec t h) 0 ≡ 1 → no_write (heading_code (rec t h)) ≡ true → byte (rec s h) 0 ≡ 1
        → (text_of h (rec t i) ≡ true) ⊎ (text_of h (rec s i) ≡ true) → rec s i ≡ rec t i
    same_text h i k n z (inl x) = go (each i (in-t i (omega (arith, y.0))))
      where
        y : (byte (rec t i) 0 ≡ 3) × (heading_of (rec t i) ≡ h)
        y = text-of h (rec t i) x

        go : Kept t s i ⊎ Gone i → rec s i ≡ rec t i
        go (inl (inl q)) = q
        go (inl (inr p)) = absurd (not-both n (put-over-text h i y p).1)
        go (inr g) = absurd (not-of h i z y g)
    same_text h i k n z (inr x) = go (each i (in-s i (omega (arith, y.0))))
      where
        y : (byte (rec s i) 0 ≡ 3) × (heading_of (rec s i) ≡ h)
        y = text-of h (rec s i) x

        laid : ((byte (rec t i) 0 ≡ 0) × (byte (rec t h) 0 ≡ 0)) ⊎ Free h → ⊥
        laid (inl a) = omega (arith, a.1)
        laid (inr o) = not-both n o.1

        go : Kept t s i ⊎ Gone i → rec s i ≡ rec t i
        go (inl (inl q)) = q
        go (inl (inr p)) = absurd (laid (put-text h i x p))
        go (inr g) = let v : ⊥ = omega (arith, y.0, kind-blank (rec s i) g.empty) in absurd v

    lost-name : (h : ℕ) → byte (rec t h) 0 ≡ 1 → byte (rec s h) 0 ≢ 1 → (named s h ≡ false) ⊎ Open razes t h
    lost-name h k n = go (each h (in-t h (omega arith)))
      where
        own : (g : Gone h) → Of t g.file h → (named s h ≡ false) ⊎ Open razes t h
        own g (inl q) = rw q g.unnamed
        own g (inr q) = let z : ⊥ = omega (arith, q.0) in absurd z

        go : Kept t s h ⊎ Gone h → (named s h ≡ false) ⊎ Open razes t h
        go (inl (inl q)) = absurd (n (rw q k))
        go (inl (inr p)) = absurd (n (put-over t h (rec s h) k p))
        go (inr g) = own g g.of

    new-heading : (h : ℕ) → byte (rec t h) 0 ≢ 1 → byte (rec s h) 0 ≡ 1 → byte (rec t h) 0 ≡ 0
    new-heading h n k = go (each h (in-s h (omega arith)))
      where
        go : Kept t s h ⊎ Gone h → byte (rec t h) 0 ≡ 0
        go (inl (inl q)) = absurd (n (rw q at k))
        go (inl (inr p)) = put-heading h n k p
        go (inr g) = let z : ⊥ = omega (arith, kind-blank (rec s h) g.empty) in absurd z

    new-text : (h i : ℕ) → byte (rec t h) 0 ≢ 1 → text_of h (rec s i) ≡ true → byte (rec t i) 0 ≡ 0
    new-text h i n x = go (each i (in-s i (omega (arith, y.0))))
      where
        y : (byte (rec s i) 0 ≡ 3) × (heading_of (rec s i) ≡ h)
        y = text-of h (rec s i) x

        laid : ((byte (rec t i) 0 ≡ 0) × (byte (rec t h) 0 ≡ 0)) ⊎ Free h → byte (rec t i) 0 ≡ 0
        laid (inl a) = a.0
        laid (inr o) = absurd (n o.0)

        go : Kept t s i ⊎ Gone i → byte (rec t i) 0 ≡ 0
        go (inl (inl q)) =
            let v : byte (rec t i) 0 ≡ 3 = rw q at y.0 in
            absurd (n (rw (← q, y.1) at (text-points 65535 t c i (in-t i (omega arith)) v)))
        go (inl (inr p)) = laid (put-text h i x p)
        go (inr g) = let v : ⊥ = omega (arith, y.0, kind-blank (rec s i) g.empty) in absurd v

    moved_by : Moved razes t s
    moved_by =
        record {
          long = e;
          held = λ h k n z.
              let q = same-heading h k n z in
              record { long = e; front = alike-front (rec t h) (rec s h) q; back = alike-back (rec t h) (rec s h) q; texts = λ i. same_text h i k n z };
          last = lost-name;
          new = new-heading;
          fresh = new-text;
        }

  pub moved-left : Left razes t s → Moved razes t s
  moved-left (stored each) = moved_by (λ i l. inl (each i l))
  moved-left (rid g k z n each) =
      moved_by (λ i l. ⊎_elim inl (λ x. inr (record { empty = x.0; file = g; of = x.1; heading = k; cleared = z; unnamed = n })) (each i l))
