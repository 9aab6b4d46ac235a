-- "Clearing happens only when its last entry goes. A later file in the same record is another file." A plan frees a file only where no
-- entry names it by then, and a mend or sweep clears only headings that none names; a DST clears a heading before its entries, and never a capped
-- one. A new heading goes to a free record of a sound table.
use mathlib.Core.Bool.{Bool, true, false}
use mathlib.Core.List.{List, [], ◌∷◌, ◌++◌}
use mathlib.Core.Logic.{◌⊎◌, inl, inr, ◌≢◌}
use mathlib.Core.Path.{◌≡◌, refl, sym, ap, ◌∙◌}
use Prim.Native.Nat.{ℕ, ◌<◌}
use native.Mathlib.Omega.{arith}
use lib.ListN.{length}
use borrow.Author.Tests.{eqb-true, eqb-false}
use Rattle.paper.specs.Record.{byte, heading_code, blank}
use Rattle.paper.specs.Layout.{boxed}
use Rattle.paper.specs.Table.{sized, rooms, rec}
use Rattle.paper.specs.Code.{no_write}
use Rattle.paper.specs.Entry.{named}
use Rattle.paper.specs.Sound.{sound}
use Rattle.paper.specs.Answer.{requested}
use Rattle.laws.proofs.Tests.{truth, not-both, false-by, and_both}
use Rattle.laws.proofs.Lay.{within, length-rec}
use Rattle.laws.proofs.Rooms.{free-blank}
use Rattle.demands.proofs.Sound.Clauses.{Sound, named_by}
use Rattle.demands.proofs.Sound.Right.{sound-right, right-sound}
use Rattle.demands.proofs.Sound.Points.{text-points, no-heading-unnamed}
use Rattle.demands.proofs.SoundKept.Freed.{text_of}
use Rattle.demands.proofs.Mending.Counts.{alike-kind}
use Rattle.histories.specs.History.{Call, asks, mends, sweeps, is_request, called, after, heads, remains}
use Rattle.histories.proofs.Calls.Stores.{Open, less-stays}
use Rattle.histories.proofs.Calls.Moved.{text-of}
use Rattle.histories.proofs.Calls.Requests.{is_destroying, request-moved}
use Rattle.histories.proofs.Calls.Tidied.{Tidied}
use Rattle.histories.proofs.Calls.Mends.{mend-tidied}
use Rattle.histories.proofs.Calls.Sweeps.{sweep-tidied}
use Rattle.histories.proofs.Calls.Mendable.{Mendable, mendable-whole, sound-mendable, Asked, refused, entered, how-asked, called-mendable, after-mendable}

-- the call is a DST
abbrev pub destroys : Call → Bool
destroys (asks line text reply user stop) = is_destroying line text
destroys (mends stop) = false
destroys (sweeps stop) = false

-- one call that clears a heading leaves no entry that names it; or it is a DST, and write was not inhibited in the heading's own code
called-last : (h : ℕ) (t : List ℕ) (c : Call) → Mendable t → heads h t ≡ true → heads h (called t c).table ≡ false
    → (named (called t c).table h ≡ false) ⊎ Open (destroys c) t h
called-last h t (mends k) m a b = inl ((mend-tidied t (mendable-whole t m) k).last h (eqb-true _ _ a) (eqb-false _ _ b))
called-last h t (sweeps k) m a b = inl ((sweep-tidied t (mendable-whole t m) k).last h (eqb-true _ _ a) (eqb-false _ _ b))
called-last h t (asks line text reply u k) m a b = go (how-asked t line text reply u k)
  where
    go : Asked t line text reply u k → (named (requested boxed t line text reply u k).table h ≡ false) ⊎ Open (is_destroying line text) t h
    go (refused e) = absurd (not-both a (rw e at b))
    go (entered c) = (request-moved t line text reply u k c.clauses).last h (eqb-true _ _ a) (eqb-false _ _ b)

-- heading h of a sound table, which it still is after any calls, and a call that clears it, where it is capped or the call is no DST: some
-- entry named it at the start, and none does after that call. The start may be the sound table before the request or sweep whose stores,
-- or whose mend, cleared it; and what a sweep clears no chain reached (ReachStays).
pub cleared-last : (t : List ℕ) (h : ℕ) (cs : List Call) (c : Call) → sized t ≡ true → sound boxed t ≡ true → heads h t ≡ true
    → heads h (after t cs) ≡ true → (no_write (heading_code (rec (after t cs) h)) ≡ true) ⊎ (destroys c ≡ false)
    → heads h (called (after t cs) c).table ≡ false → (named t h ≡ true) × (named (called (after t cs) c).table h ≡ false)
cleared-last t h cs c a b k z o n =
    let r = sound-right t a b in
    let s = r.clauses in
    let i : byte (rec t h) 0 ≡ 1 = eqb-true _ _ k in (
      named_by t s h (within t h s.whole (omega arith)) i,
      go o (called-last h (after t cs) c (after-mendable t cs (sound-mendable t r)) z n),
    )
  where
    go : (no_write (heading_code (rec (after t cs) h)) ≡ true) ⊎ (destroys c ≡ false)
        → (named (called (after t cs) c).table h ≡ false) ⊎ Open (destroys c) (after t cs) h → named (called (after t cs) c).table h ≡ false
    go x (inl e) = e
    go (inl x) (inr e) = absurd (not-both x e.1)
    go (inr x) (inr e) = absurd (not-both e.0 x)

-- ---- another file

-- from s to s₁ the call c lays a new file's heading in record h
pub record Anew (h : ℕ) (s : List ℕ) (c : Call) (s₁ : List ℕ) : Type 0 where
  pub asks : is_request c ≡ true
  pub sized : sized s ≡ true
  pub sound : sound boxed s ≡ true
  -- before: the record is free, no entry names it and no text
  pub free : rec s h ≡ blank
  pub unnamed : named s h ≡ false
  pub textless : (i : ℕ) → text_of h (rec s i) ≡ false
  -- after: a heading; and all text that names it lies where nothing was
  pub heading : heads h s₁ ≡ true
  pub texts : (i : ℕ) → text_of h (rec s₁ i) ≡ true → rec s i ≡ blank

-- a free record of a sound table is blank
blank-at : (t s : List ℕ) → Sound t → length s ≡ length t → (i : ℕ) → byte (rec s i) 0 ≢ 0 → byte (rec t i) 0 ≡ 0 → rec t i ≡ blank
blank-at t s c e i n f =
    let l : i < rooms t = rw e at (within s i (rw e c.whole) n) in
    free-blank (rec t i) (length-rec t i l) ((c.own i l).free f)

-- a mend and a sweep lay none
none-anew : (h : ℕ) (t s : List ℕ) → Mendable t → Tidied t s → heads h t ≡ false → heads h s ≡ true → ⊥
none-anew h t s m d a b =
    let z : byte (rec s h) 0 ≡ 1 = eqb-true _ _ b in
    let y = less-stays t s (mendable-whole t m) d.less h (omega arith) in
    eqb-false _ _ a (sym (alike-kind (rec t h) (rec s h) y) ∙ z)

called-anew : (h : ℕ) (t : List ℕ) (c : Call) → Mendable t → heads h t ≡ false → heads h (called t c).table ≡ true → Anew h t c (called t c).table
called-anew h t (mends k) m a b = absurd (none-anew h t _ m (mend-tidied t (mendable-whole t m) k) a b)
called-anew h t (sweeps k) m a b = absurd (none-anew h t _ m (sweep-tidied t (mendable-whole t m) k) a b)
called-anew h t (asks line text reply u k) m a b = go (how-asked t line text reply u k)
  where
    go : Asked t line text reply u k → Anew h t (asks line text reply u k) (requested boxed t line text reply u k).table
    go (refused e) = absurd (not-both (rw e at b) a)
    go (entered r) =
        let c = r.clauses in
        let s₁ : List ℕ = (requested boxed t line text reply u k).table in
        let d = request-moved t line text reply u k c in
        let n : byte (rec t h) 0 ≢ 1 = eqb-false _ _ a in
        let f = d.new h n (eqb-true _ _ b) in
        let s = right-sound t r in
        record {
          asks = refl;
          sized = s.0;
          sound = s.1;
          free = blank-at t s₁ c d.long h (omega (arith, eqb-true (byte (rec s₁ h) 0) 1 b)) f;
          unnamed = no-heading-unnamed 65535 t c h n;
          textless = λ i. false-by _ (λ x.
              let y = text-of h (rec t i) x in
              n (rw y.1 at (text-points 65535 t c i (within t i c.whole (omega (arith, y.0))) y.0)));
          heading = b;
          texts = λ i x. blank-at t s₁ c d.long i (omega (arith, (text-of h (rec s₁ i) x).0)) (d.fresh h i n x);
        }

-- among these calls one laid a new file's heading in h, and after each later one it is a heading
pub record Later (h : ℕ) (s : List ℕ) (ds : List Call) : Type 0 where
  pub before : List Call
  pub call : Call
  pub rest : List Call
  pub calls : ds ≡ before ++ call ∷ rest
  pub anew : Anew h (after s before) call (called (after s before) call).table
  pub stays : remains h (called (after s before) call).table rest ≡ true

later_more : (h : ℕ) (s : List ℕ) (d : Call) (ds : List Call) → Later h (called s d).table ds → Later h s (d ∷ ds)
unfolding after
later_more h s d ds l =
    record { before = d ∷ l.before; call = l.call; rest = l.rest; calls = ap (λ (x : List Call). d ∷ x) l.calls; anew = l.anew; stays = l.stays }

-- a heading at the end was one all the way, or was laid anew
whence : (h : ℕ) (ds : List Call) (s : List ℕ) → Mendable s → heads h (after s ds) ≡ true
    → ((heads h s ≡ true) × (remains h s ds ≡ true)) ⊎ Later h s ds
unfolding after remains
whence h [] s m z = inl (z, refl)
whence h (d ∷ ds) s m z = go (whence h ds (called s d).table (called-mendable s d m) z) (truth (heads h s))
  where
    go : ((heads h (called s d).table ≡ true) × (remains h (called s d).table ds ≡ true)) ⊎ Later h (called s d).table ds
        → (heads h s ≡ true) ⊎ (heads h s ≡ false) → ((heads h s ≡ true) × (remains h s (d ∷ ds) ≡ true)) ⊎ Later h s (d ∷ ds)
    go (inr l) x = inr (later_more h s d ds l)
    go (inl a) (inl x) = inl (x, and_both (heads h (called s d).table) _ a.0 a.1)
    go (inl a) (inr x) =
        inr (record { before = []; call = d; rest = ds; calls = refl; anew = called-anew h s d m x a.0; stays = a.1 })

-- a record that is no heading after cs and is one after ds: a request of ds laid it, on a sound table in which the record was free,
-- named by no entry and by no text; so nothing of a file that lay there before is left
pub another-file : (t : List ℕ) (h : ℕ) (cs ds : List Call) → sized t ≡ true → sound boxed t ≡ true
    → heads h (after t cs) ≡ false → heads h (after (after t cs) ds) ≡ true → Later h (after t cs) ds
another-file t h cs ds a b n z = go (whence h ds (after t cs) (after-mendable t cs (sound-mendable t (sound-right t a b))) z)
  where
    go : ((heads h (after t cs) ≡ true) × (remains h (after t cs) ds ≡ true)) ⊎ Later h (after t cs) ds → Later h (after t cs) ds
    go (inl x) = absurd (not-both x.0 n)
    go (inr l) = l
