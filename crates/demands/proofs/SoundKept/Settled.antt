-- Settling is planned on the table before and run on the table in which the new file and the entry already stand. It comes to the same:
-- a new file fills free records only, brings no entry and no text of an old heading, and the entry stands where the one before it stood.
use mathlib.Core.Bool.{Bool, true, false, ◌&&◌, not, cond}
use mathlib.Core.List.{List, [], ◌∷◌, ◌++◌}
use mathlib.Core.Logic.{◌⊎◌, inl, inr, ◌≢◌, by_cases}
use mathlib.Core.Path.{◌≡◌, refl, sym, ap, ◌∙◌}
use Prim.Native.Nat.{ℕ, ◌<◌}
use native.Mathlib.Omega.{arith}
use native.Mathlib.Decide.{ℕ_discrete}
use lib.ListN.{length}
use Rattle.paper.specs.Scan.{Found, at, nowhere, first_below}
use Rattle.paper.specs.Record.{byte, directory, heading_named, holder_of, user_of, names, text_at, blank}
use Rattle.paper.specs.Layout.{boxed}
use Rattle.paper.specs.Table.{rooms, rec, lay, place, text_room}
use Rattle.paper.specs.Entry.{Holder, in_directory, stands, find, named, peopled}
use Rattle.paper.specs.Block.{blocks_of}
use Rattle.paper.specs.Store.{Store, puts, clear, run}
use Rattle.paper.specs.Effect.{freed, lost, settled, losing}
use Rattle.laws.proofs.Tests.{truth, not-both, and_left, and_right, and_both, false-by}
use Rattle.laws.proofs.Scans.{any-true, any_here, any-cong, first_cong}
use Rattle.laws.proofs.Lists.{join-cong}
use Rattle.laws.proofs.Entries.{Stands, stands-true, stands_by, found-stands, names-kind, text-true}
use Rattle.laws.proofs.Lay.{Whole, lay-same, lay-other, length-lay, length-blank, within, kinds-apart}
use Rattle.laws.proofs.Runs.{run-append}
use Rattle.demands.proofs.Sound.Clauses.{SoundBut, Sound}
use Rattle.demands.proofs.SoundKept.Grown.{New, Grown, grown-none, grown-stays, new-entry, new-text}
use Rattle.demands.proofs.SoundKept.Cleared.{entry-cleared}
use Rattle.demands.proofs.SoundKept.Freed.{freed-sound, named-sound}

-- record r in place of the entry a: an entry that stands where a stood, or no entry
pub record Instead (a r : List ℕ) : Type 0 where
  pub size : length r ≡ 32
  pub text : byte r 0 ≢ 3
  pub stands : (d : Holder) → stands d r ≡ true → stands d a ≡ true

pub instead-entry : (a r : List ℕ) → length r ≡ 32 → byte a 0 ≡ 2 → byte r 0 ≡ 2 → holder_of r ≡ holder_of a → user_of r ≡ user_of a → Instead a r
instead-entry a r s ka kr h u =
    record {
      size = s;
      text = λ (z : byte r 0 ≡ 3). omega arith;
      stands = λ d e.
          let x = stands-true d r e in
          stands_by d a (record { kind = ka; heading = sym h ∙ x.heading; user = sym u ∙ x.user });
    }

-- an entry of d in place of the one that bears its name
pub instead-found : (t : List ℕ) (d : Holder) (n : List ℕ) (e : ℕ) (r : List ℕ) → find boxed t d n ≡ at e → length r ≡ 32 → Stands d r → Instead (rec t e) r
instead-found t d n e r q s x =
    let f = (found-stands t d n e q).1 in
    instead-entry (rec t e) r s f.kind x.kind (x.heading ∙ sym f.heading) (x.user ∙ sym f.user)

pub instead-blank : (a : List ℕ) → Instead a blank
unfolding blank
instead-blank a =
    record {
      size = length-blank;
      text = λ (z : ◌≡◌ {A = ℕ} 0 3). omega arith;
      stands = λ d e.
          let z : ◌≡◌ {A = ℕ} 0 2 = (stands-true d blank e).kind in
          let y : ⊥ = omega arith in
          absurd y;
    }

place_same : (a b : List ℕ) → length a ≡ length b → (f : Found) → place a f ≡ place b f
place_same a b e (at i) = refl
place_same a b e nowhere = rw e

module _ (t m : List ℕ) (e : ℕ) (r : List ℕ) (g : Grown t m) (n : Instead (rec t e) r) (l : e < rooms t) (k : byte (rec t e) 0 ≡ 2) where
  rooms-m : rooms m ≡ rooms t
  rooms-m = rw g.long

  long-1 : length (lay m e r) ≡ length t
  long-1 = length-lay m e r ∙ g.long

  here : rec (lay m e r) e ≡ r
  here = lay-same m e r n.size (rw rooms-m l)

  there : (i : ℕ) → i < rooms t → i ≢ e → (rec (lay m e r) i ≡ rec t i) ⊎ New t (rec t i) (rec (lay m e r) i)
  there i b d = rw (lay-other m e r i n.size d (rw rooms-m b)) (g.each i b)

  -- an entry but e is one of t
  entry-same : (test : List ℕ → Bool) → ((r : List ℕ) → test r ≡ true → byte r 0 ≡ 2) → (i : ℕ) → i < rooms t → i ≢ e
      → test (rec (lay m e r) i) ≡ test (rec t i)
  entry-same test y i b d = go (there i b d)
    where
      go : (rec (lay m e r) i ≡ rec t i) ⊎ New t (rec t i) (rec (lay m e r) i) → test (rec (lay m e r) i) ≡ test (rec t i)
      go (inl x) = rw x
      go (inr x) = new-entry t (rec t i) (rec (lay m e r) i) x test y

  named-same : (h : ℕ) → named (lay m e r) h ≡ named (lay t e r) h
  unfolding named
  named-same h =
      rw (long-1, length-lay t e r) (any-cong (λ i. names h (rec (lay m e r) i)) (λ i. names h (rec (lay t e r) i)) (rooms t) (λ i b. by_cases (ℕ_discrete i e)
      (λ (q : i ≡ e). rw (q, here, lay-same t e r n.size l))
      (λ (q : i ≢ e). rw (lay-other t e r i n.size q b) (entry-same (names h) (names-kind h) i b q))))

  -- no entry stands in h now where none stood before
  peopled-before : (h : ℕ) → peopled (lay m e r) h ≡ true → peopled t h ≡ true
  unfolding peopled
  peopled-before h y =
      let w = any-true (λ i. stands (in_directory h) (rec (lay m e r) i)) (rooms t) (rw long-1 at y) in
      go w.0 w.1 w.2
    where
      go : (i : ℕ) → i < rooms t → stands (in_directory h) (rec (lay m e r) i) ≡ true → peopled t h ≡ true
      go i b s =
          any_here (λ i. stands (in_directory h) (rec t i)) (rooms t) i b
          (by_cases (ℕ_discrete i e)
          (λ (q : i ≡ e). rw q (n.stands (in_directory h) (rw (q, here) at s)))
          (λ (q : i ≢ e). sym (entry-same (stands (in_directory h)) (λ r x. (stands-true (in_directory h) r x).kind) i b q) ∙ s))

  -- an old heading and its text are as they were
  module _ (h : ℕ) (w : Whole t) (kh : byte (rec t h) 0 ≡ 1) where
    rec-h : rec (lay m e r) h ≡ rec t h
    rec-h = go (there h (within t h w (omega arith)) (kinds-apart t h e 1 2 kh k (omega arith)))
      where
        go : (rec (lay m e r) h ≡ rec t h) ⊎ New t (rec t h) (rec (lay m e r) h) → rec (lay m e r) h ≡ rec t h
        go (inl x) = x
        go (inr x) = let y : ⊥ = omega (arith, x.free) in absurd y

    text_same : (p i : ℕ) → i < rooms t → text_at h p (rec (lay m e r) i) ≡ text_at h p (rec t i)
    text_same p i b =
        by_cases (ℕ_discrete i e)
        (λ (q : i ≡ e). rw (q, here)
        (false-by (text_at h p r) (λ x. n.text (text-true h p r x).kind)
        ∙ sym (false-by (text_at h p (rec t e)) (λ x. omega (arith, (text-true h p (rec t e) x).kind)))))
        (λ (q : i ≢ e). go (there i b q))
      where
        go : (rec (lay m e r) i ≡ rec t i) ⊎ New t (rec t i) (rec (lay m e r) i) → text_at h p (rec (lay m e r) i) ≡ text_at h p (rec t i)
        go (inl x) = rw x
        go (inr x) = new-text t (rec t i) (rec (lay m e r) i) h p x kh

    room-same : (p : ℕ) → text_room (lay m e r) h p ≡ text_room t h p
    unfolding text_room
    room-same p =
        rw (first_cong (λ i. text_at h p (rec (lay m e r) i)) (λ i. text_at h p (rec t i)) (rooms (lay m e r)) (λ i b. text_same p i (rw long-1 at b)), long-1)
        (place_same (lay m e r) t long-1 (first_below (λ i. text_at h p (rec t i)) (rooms t)))

    freed-same : freed (lay m e r) h ≡ freed t h
    unfolding freed
    freed-same = rw rec-h (ap (◌∷◌ (clear h)) (join-cong _ _ (blocks_of t h) (λ p b. rw (room-same p))))

-- what settling asks of t and does is what it would ask and do where the entry already stands
module _ (t m : List ℕ) (e : ℕ) (r : List ℕ) (c : Sound t) (g : Grown t m) (n : Instead (rec t e) r) (l : e < rooms t) (k : byte (rec t e) 0 ≡ 2) where
  pub settled_same : settled t e r ≡ cond (named (lay m e r) (heading_named (rec t e))) [] (freed (lay m e r) (heading_named (rec t e)))
  unfolding settled lost
  settled_same =
      rw (named-same t m e r g n l k (heading_named (rec t e)), freed-same t m e r g n l k (heading_named (rec t e)) c.whole (c.targets e l k))
      (turned (named (lay t e r) (heading_named (rec t e))) (freed t (heading_named (rec t e))))
    where
      turned : (b : Bool) (s : List Store) → cond (not b) s [] ≡ cond b [] s
      turned true s = refl
      turned false s = refl

  -- check 18 passed: a file that is lost is no directory with entries
  childless : losing t e r ≡ false → named (lay m e r) (heading_named (rec t e)) ≡ false
      → (directory (rec (lay m e r) (heading_named (rec t e))) && peopled (lay m e r) (heading_named (rec t e))) ≡ false
  unfolding losing lost
  childless v z =
      rw (rec-h t m e r g n l k (heading_named (rec t e)) c.whole (c.targets e l k)) (false-by _ (λ x.
      not-both (and_both (directory (rec t (heading_named (rec t e)))) _ (and_left _ _ x)
      (peopled-before t m e r g n l k (heading_named (rec t e)) (and_right (directory (rec t (heading_named (rec t e)))) _ x)))
      (rw (sym (named-same t m e r g n l k (heading_named (rec t e))) ∙ z) at v)))

  -- the file that lost an entry, cleared if no entry names it now: the table is sound
  pub settled-sound : SoundBut (heading_named (rec t e)) (lay m e r) → losing t e r ≡ false → Sound (run (lay m e r) (settled t e r))
  unfolding run
  settled-sound s v = rw settled_same (go (truth (named (lay m e r) (heading_named (rec t e)))))
    where
      go : (named (lay m e r) (heading_named (rec t e)) ≡ true) ⊎ (named (lay m e r) (heading_named (rec t e)) ≡ false)
          → Sound (run (lay m e r) (cond (named (lay m e r) (heading_named (rec t e))) [] (freed (lay m e r) (heading_named (rec t e)))))
      go (inl z) = rw z (named-sound (heading_named (rec t e)) (lay m e r) s z)
      go (inr z) =
          rw z (freed-sound (lay m e r) (heading_named (rec t e)) s
          (rw (rec-h t m e r g n l k (heading_named (rec t e)) c.whole (c.targets e l k)) (c.targets e l k)) z (childless v z))

-- one name deleted: the entry cleared, and its file if no entry names it now
pub deleted-sound : (t : List ℕ) (e : ℕ) → Sound t → byte (rec t e) 0 ≡ 2 → losing t e blank ≡ false → Sound (run t (clear e ∷ settled t e blank))
unfolding run
deleted-sound t e c k v =
    let l = within t e c.whole (omega arith) in
    settled-sound t t e blank c (grown-none t) (instead-blank (rec t e)) l k (entry-cleared t e c l k) v

-- the stores of an entry that displaces e: the table is sound if it is so, but for e's file, once the entry is laid
pub displaced-sound : (t : List ℕ) (first : List Store) (e : ℕ) (r : List ℕ) → Sound t → Grown t (run t first) → byte (rec t e) 0 ≡ 2 → Instead (rec t e) r
    → losing t e r ≡ false → SoundBut (heading_named (rec (run t first) e)) (lay (run t first) e r) → Sound (run t (first ++ puts e r ∷ settled t e r))
unfolding run
displaced-sound t first e r c g k n v s =
    rw (run-append t first (puts e r ∷ settled t e r))
    (settled-sound t (run t first) e r c g n (within t e c.whole (omega arith)) k (rw (grown-stays t (run t first) g e c.whole (omega arith)) at s) v)
