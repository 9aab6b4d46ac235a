-- Each entry's store moves the counts that the code has: the new entry names one heading and stands in one holder, the entry before it, or the
-- one cleared, likewise. In a sound table these are headings, and a holder that is no base list is a directory.
use mathlib.Core.Bool.{true, false}
use mathlib.Core.List.{List}
use mathlib.Core.Logic.{◌⊎◌, inl, inr, ◌≢◌}
use mathlib.Core.Path.{◌≡◌, refl, sym, ap, ◌∙◌}
use Prim.Native.Nat.{ℕ, ◌^◌, ◌≤◌, ◌<◌}
use native.Mathlib.Omega.{arith}
use lib.Dec.{eqb}
use lib.ListN.{length}
use borrow.Author.Tests.{eqb-true, eq-eqb, ne_eqb, leb-true}
use Rattle.paper.specs.Scan.{at}
use Rattle.paper.specs.Record.{byte, directory, holder_of, heading_named, user_of, names, blank}
use Rattle.paper.specs.Layout.{entry_record, boxed}
use Rattle.paper.specs.Table.{rooms, rec, lay, frees, room}
use Rattle.paper.specs.Entry.{Holder, holder, in_directory, stands, find}
use Rattle.paper.specs.Sound.{is_base, counts_true}
use Rattle.paper.specs.Store.{Store, run}
use Rattle.paper.specs.Count.{recounts}
use Rattle.laws.proofs.Tests.{truth, same_truth, false-by, or_cases}
use Rattle.laws.proofs.Fields.{entry-record-kind, length-entry, entry-holder, entry-heading, entry-user}
use Rattle.laws.proofs.Entries.{Stands, stands-true, stands_by, stands-holder, names-kind, found-stands, typed-kind}
use Rattle.laws.proofs.Lay.{Whole, within}
use Rattle.laws.proofs.Runs.{rooms-run, length_run}
use Rattle.laws.proofs.Rooms.{room-below}
use Rattle.demands.proofs.Sound.Clauses.{Sound}
use Rattle.demands.proofs.Sound.Right.{Right}
use Rattle.demands.proofs.SoundKept.Grown.{Grown, grown-rooms, grown-stays}
use Rattle.demands.proofs.Recounting.After.{Entering}
use Rattle.demands.proofs.Recounting.Before.{clears-enter}
use Rattle.effects.specs.Counts.{count_stores}
use Rattle.placing.specs.Placing.{come, instead, gone, Held}
use Rattle.placing.proofs.Moving.{Moved, counts-corrected}
use Rattle.placing.proofs.Holding.{Before, before-none}

pub eqb-turn : (a b : ℕ) → eqb a b ≡ eqb b a
eqb-turn a b = same_truth (eqb a b) (eqb b a) (λ e. eq-eqb b a (sym (eqb-true a b e))) (λ e. eq-eqb a b (sym (eqb-true b a e)))

-- no record of a table is number 65,535
not_none : (n i : ℕ) → n ≤ 2048 → i < n → eqb i 65535 ≡ false
not_none n i m l = ne_eqb i 65535 (λ (z : i ≡ 65535). omega arith)

none-such : {A : Type 0} (n i : ℕ) → n ≤ 2048 → i < n → i ≡ 65535 → A
none-such n i m l e = let z : ⊥ = omega arith in absurd z

-- an entry's tests, by its fields
names_of : (r : List ℕ) → byte r 0 ≡ 2 → (i : ℕ) → names i r ≡ eqb i (heading_named r)
names_of r k i = rw k (eqb-turn (heading_named r) i)

no_names : (r : List ℕ) → byte r 0 ≢ 2 → (i : ℕ) → names i r ≡ false
no_names r d i = false-by (names i r) (λ e. d (names-kind i r e))

no-stands : (r : List ℕ) → byte r 0 ≢ 2 → (i : ℕ) → stands (in_directory i) r ≡ false
no-stands r d i = false-by (stands (in_directory i) r) (λ e. d (stands-true (in_directory i) r e).kind)

-- it stands in directory i where that is its holder, and then no user is in it
stands_of : (r : List ℕ) → byte r 0 ≡ 2 → (i : ℕ) → (holder_of r ≡ i → user_of r ≡ 0) → stands (in_directory i) r ≡ eqb i (holder_of r)
stands_of r k i u =
    same_truth (stands (in_directory i) r) (eqb i (holder_of r))
    (λ e. eq-eqb i (holder_of r) (sym (stands-true (in_directory i) r e).heading))
    (λ e. let q = sym (eqb-true i (holder_of r) e) in stands_by (in_directory i) r (record { kind = k; heading = q; user = u q }))

-- two entries of one holder
stands_alike : (d : Holder) (a b : List ℕ) → byte a 0 ≡ 2 → byte b 0 ≡ 2 → holder a ≡ holder b → stands d a ≡ stands d b
unfolding stands
stands_alike d a b ka kb p =
    let h : holder_of a ≡ holder_of b = ap (λ (x : Holder). x.heading) p in
    let u : user_of a ≡ user_of b = ap (λ (x : Holder). x.user) p in
    rw (ka, kb, h, u)

-- an entry of a sound table: its holder is a base list or a directory, and its user is small
module _ (t : List ℕ) (c : Sound t) (e : ℕ) (l : e < rooms t) (k : byte (rec t e) 0 ≡ 2) where
  pub held-entry : (is_base (rec t e) ≡ true) ⊎ (directory (rec t (holder_of (rec t e))) ≡ true)
  held-entry = or_cases (is_base (rec t e)) _ (c.holders e l k)

  holder-small : holder_of (rec t e) < 65536
  holder-small = go held-entry
    where
      go : (is_base (rec t e) ≡ true) ⊎ (directory (rec t (holder_of (rec t e))) ≡ true) → holder_of (rec t e) < 65536
      go (inl b) = let z : holder_of (rec t e) ≡ 65535 = eqb-true _ _ b in omega arith
      go (inr d) =
          let h : byte (rec t (holder_of (rec t e))) 0 ≡ 1 = typed-kind 0 (rec t (holder_of (rec t e))) d in
          let m : holder_of (rec t e) < rooms t = within t (holder_of (rec t e)) c.whole (λ (z : byte (rec t (holder_of (rec t e))) 0 ≡ 0). omega arith) in
          omega (arith, c.few)

  user-zero : is_base (rec t e) ≡ false → user_of (rec t e) ≡ 0
  user-zero b = eqb-true _ _ (rw b at ((c.own e l).entry k).user)

  user-small : user_of (rec t e) ≤ 999999
  user-small = go (truth (is_base (rec t e)))
    where
      go : (is_base (rec t e) ≡ true) ⊎ (is_base (rec t e) ≡ false) → user_of (rec t e) ≤ 999999
      go (inl b) = leb-true _ _ (rw b at ((c.own e l).entry k).user)
      go (inr b) = let z = user-zero b in omega arith

  directory-user : (i : ℕ) → i < rooms t → holder_of (rec t e) ≡ i → user_of (rec t e) ≡ 0
  directory-user i m q = user-zero (ne_eqb _ _ (λ (z : holder_of (rec t e) ≡ 65535). omega (arith, c.few)))

  pub directory-held : (i : ℕ) → i < rooms t → i ≡ holder_of (rec t e) → directory (rec t i) ≡ true
  directory-held i m q = go held-entry
    where
      go : (is_base (rec t e) ≡ true) ⊎ (directory (rec t (holder_of (rec t e))) ≡ true) → directory (rec t i) ≡ true
      go (inl b) = let z : holder_of (rec t e) ≡ 65535 = eqb-true _ _ b in let y : ⊥ = omega (arith, c.few) in absurd y
      go (inr d) = rw q d

-- ---- an entry cleared

module _ (t : List ℕ) (c : Right t) (e : ℕ) (l : e < rooms t) (k : byte (rec t e) 0 ≡ 2) where
  few : rooms t ≤ 2048
  few = c.clauses.few

  cleared-moved : Moved t e blank (gone (holder_of (rec t e)) (heading_named (rec t e)))
  unfolding blank
  cleared-moved =
      record {
        named = λ i m. sym (not_none (rooms t) i few m);
        lost = λ i m. names_of (rec t e) k i;
        held = λ i m.
            rw (
              not_none (rooms t) i few m,
              stands_of (rec t e) k i (λ q. directory-user t c.clauses e l k i m q),
              no-stands blank (λ (z : ◌≡◌ {A = ℕ} 0 2). omega arith) i,
            )
            (omega arith);
        heads = λ i m q. heads i m q;
        holds = λ i m q. holds i m q;
        come = λ (z : ◌≡◌ {A = ℕ} 0 2) _. let y : ⊥ = omega arith in absurd y;
        gone = λ _ _. refl;
        one = inr (omega (arith, few));
        other = inl (omega (arith, few));
      }
    where
      heads : (i : ℕ) → i < rooms t → (i ≡ 65535) ⊎ (i ≡ heading_named (rec t e)) → byte (rec t i) 0 ≡ 1
      heads i m (inl q) = none-such (rooms t) i few m q
      heads i m (inr q) = rw q (c.clauses.targets e l k)

      holds : (i : ℕ) → i < rooms t → (i ≡ 65535) ⊎ (i ≡ holder_of (rec t e)) → directory (rec t i) ≡ true
      holds i m (inl q) = none-such (rooms t) i few m q
      holds i m (inr q) = directory-held t c.clauses e l k i m q

  pub cleared-counts : recounts (lay t e blank) ≡ count_stores (lay t e blank) (gone (holder_of (rec t e)) (heading_named (rec t e)))
  unfolding run
  cleared-counts =
      counts-corrected t e blank (clears-enter t e c k) c.clauses.whole
      (before-none t c (heading_named (rec t e)) (c.clauses.targets e l k)).plain (gone (holder_of (rec t e)) (heading_named (rec t e))) cleared-moved

-- ---- a new entry

module _ (t : List ℕ) (c : Right t) (code : ℕ) (hd : Holder) (k : ℕ) (n : List ℕ) (short : length n ≤ 10) (small : k < 65536) where
  abbrev r : List ℕ
  r = entry_record boxed code hd.heading k hd.user n

  kind : byte r 0 ≡ 2
  kind = entry-record-kind code hd.heading k hd.user n

  heading : heading_named r ≡ k
  heading = entry-heading code hd.heading k hd.user n (omega arith)

  pub names-entry : (i : ℕ) → names i r ≡ eqb i k
  names-entry i = names_of r kind i ∙ ap (λ (x : ℕ). eqb i x) heading

  -- over an entry that bears its name: it stands where that stood
  module _ (e : ℕ) (q : find boxed t hd n ≡ at e) where
    there : (e < rooms t) × Stands hd (rec t e)
    there = found-stands t hd n e q

    alike : holder r ≡ holder (rec t e)
    alike =
        let s = there.1 in
        let h = holder-small t c.clauses e there.0 s.kind in
        let u = user-small t c.clauses e there.0 s.kind in
        let a : holder_of r ≡ hd.heading = entry-holder code hd.heading k hd.user n (omega (arith, s.heading)) in
        let b : user_of r ≡ hd.user = entry-user code hd.heading k hd.user n (omega (arith, s.user)) in
        (λ i. record { heading = a i; user = b i }) ∙ sym (stands-holder hd (rec t e) s)

    pub over-enters : (f : List ℕ) → Grown t f → counts_true f ≡ true → Entering f e r
    over-enters f g y =
        let same : rec f e ≡ rec t e = grown-stays t f g e c.clauses.whole (omega (arith, there.1.kind)) in
        let old : byte (rec f e) 0 ≡ 2 = rw same there.1.kind in
        record {
          within = rw (grown-rooms t f g) there.0;
          size = length-entry code hd.heading k hd.user n;
          few = rw (grown-rooms t f g) c.clauses.few;
          old = omega arith;
          new = omega (arith, kind);
          place = λ _ _. alike ∙ sym (ap holder same);
          counts = y;
        }

  -- after the stores before it
  module _ (first : List Store) (b : Before t first k) where
    abbrev f : List ℕ
    f = run t first

    few-f : rooms f ≤ 2048
    few-f = rw rooms-run c.clauses.few

    whole-f : Whole f
    whole-f = rw length_run c.clauses.whole

    -- what is no free record of t
    stays : (i : ℕ) → byte (rec t i) 0 ≡ 1 → rec f i ≡ rec t i
    stays i q = grown-stays t f b.grown i c.clauses.whole (λ (z : byte (rec t i) 0 ≡ 0). omega arith)

    module _ (e : ℕ) (q : find boxed t hd n ≡ at e) where
      same : rec f e ≡ rec t e
      same = grown-stays t f b.grown e c.clauses.whole (omega (arith, (there e q).1.kind))

      old-kind : byte (rec f e) 0 ≡ 2
      old-kind = rw same (there e q).1.kind

      over-moved : Moved f e r (instead (heading_named (rec t e)) k)
      over-moved =
          record {
            named = λ i m. names-entry i;
            lost = λ i m. rw same (names_of (rec t e) (there e q).1.kind i);
            held = λ i m.
                rw (not_none (rooms f) i few-f m, stands_alike (in_directory i) r (rec f e) kind old-kind (alike e q ∙ sym (ap holder same))) (omega arith);
            heads = heads;
            holds = holds;
            come = λ _ d. absurd (d old-kind);
            gone = λ _ d. absurd (d kind);
            one = inl (omega (arith, few-f));
            other = inl (omega (arith, few-f));
          }
        where
          heads : (i : ℕ) → i < rooms f → (i ≡ k) ⊎ (i ≡ heading_named (rec t e)) → byte (rec f i) 0 ≡ 1
          heads i m (inl z) = rw z b.named
          heads i m (inr z) =
              let y = c.clauses.targets e (there e q).0 (there e q).1.kind in
              rw (z, stays (heading_named (rec t e)) y) y

          holds : (i : ℕ) → i < rooms f → (i ≡ 65535) ⊎ (i ≡ 65535) → directory (rec f i) ≡ true
          holds i m (inl z) = none-such (rooms f) i few-f m z
          holds i m (inr z) = none-such (rooms f) i few-f m z

      pub over-counts : recounts (lay f e r) ≡ count_stores (lay f e r) (instead (heading_named (rec t e)) k)
      over-counts =
          counts-corrected f e r (over-enters e q f b.grown b.counts) whole-f b.plain (instead (heading_named (rec t e)) k) over-moved

    -- in a free record
    module _ (h : Held t hd) (l : length first < length (frees t)) where
      abbrev e : ℕ
      e = room t (length first)

      free : byte (rec f e) 0 ≡ 0
      free = b.next l

      directory-in : directory (rec t hd.heading) ≡ true → (hd.heading < rooms t) × (byte (rec t hd.heading) 0 ≡ 1)
      directory-in d =
          let z : byte (rec t hd.heading) 0 ≡ 1 = typed-kind 0 (rec t hd.heading) d in
          (within t hd.heading c.clauses.whole (λ (y : byte (rec t hd.heading) 0 ≡ 0). omega arith), z)

      in-it : holder_of r ≡ hd.heading
      in-it = entry-holder code hd.heading k hd.user n (go h)
        where
          go : Held t hd → hd.heading < 256 ^ 2
          go (inl z) = omega arith
          go (inr z) = omega (arith, (directory-in z.0).0, c.clauses.few)

      no-user : (i : ℕ) → i < rooms f → holder_of r ≡ i → user_of r ≡ 0
      no-user i m y = go h
        where
          go : Held t hd → user_of r ≡ 0
          go (inl z) = let x : ⊥ = omega (arith, few-f, in-it) in absurd x
          go (inr z) = entry-user code hd.heading k hd.user n (omega (arith, z.1)) ∙ z.1

      free-enters : Entering f e r
      free-enters =
          record {
            within = rw rooms-run (room-below t (length first) l);
            size = length-entry code hd.heading k hd.user n;
            few = few-f;
            old = omega (arith, free);
            new = omega (arith, kind);
            place = λ (z : byte (rec f e) 0 ≡ 2) _. let y : ⊥ = omega (arith, free) in absurd y;
            counts = b.counts;
          }

      free_moved : Moved f e r (come hd.heading k)
      free_moved =
          record {
            named = λ i m. names-entry i;
            lost = λ i m. no_names (rec f e) (omega (arith, free)) i ∙ sym (not_none (rooms f) i few-f m);
            held = λ i m.
                rw (not_none (rooms f) i few-f m, no-stands (rec f e) (omega (arith, free)) i, stands_of r kind i (no-user i m), in-it) (omega arith);
            heads = heads;
            holds = holds;
            come = λ _ _. in-it;
            gone = λ (z : byte (rec f e) 0 ≡ 2) _. let y : ⊥ = omega (arith, free) in absurd y;
            one = inl (omega (arith, few-f));
            other = inr (omega (arith, few-f));
          }
        where
          heads : (i : ℕ) → i < rooms f → (i ≡ k) ⊎ (i ≡ 65535) → byte (rec f i) 0 ≡ 1
          heads i m (inl z) = rw z b.named
          heads i m (inr z) = none-such (rooms f) i few-f m z

          holds : (i : ℕ) → i < rooms f → (i ≡ hd.heading) ⊎ (i ≡ 65535) → directory (rec f i) ≡ true
          holds i m (inl z) = go h
            where
              go : Held t hd → directory (rec f i) ≡ true
              go (inl y) = none-such (rooms f) i few-f m (z ∙ y)
              go (inr y) = rw (z, stays hd.heading (directory-in y.0).1) y.0
          holds i m (inr z) = none-such (rooms f) i few-f m z

      pub free-counts : recounts (lay f e r) ≡ count_stores (lay f e r) (come hd.heading k)
      free-counts = counts-corrected f e r free-enters whole-f b.plain (come hd.heading k) free_moved
