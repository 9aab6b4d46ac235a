-- The entries of a directory are followed from the last back, and of the queue one heading after another: at the end each heading marked has
-- all its entries followed.
-- So a chain of entries from a base file's entry leads from mark to mark, and everything reached is marked.
use mathlib.Core.Bool.{Bool, true}
use mathlib.Core.List.{List}
use mathlib.Core.Logic.{◌⊎◌, inl, inr, ◌≢◌, by_cases}
use mathlib.Core.Path.{◌≡◌, refl, sym, ◌∙◌}
use Prim.Native.Nat.{ℕ, zero, suc, ◌+◌, ◌-◌, ◌≤◌, ◌<◌}
use native.Mathlib.Decide.{ℕ_discrete, dec_lt}
use native.Mathlib.Omega.{arith}
use lib.ListN.{get_or}
use borrow.Author.Tests.{eqb-true, eq-eqb}
use Rattle.paper.specs.Record.{byte, is_kind, holder_of, names}
use Rattle.paper.specs.Sound.{is_base}
use Rattle.paper.specs.Sweep.{reached_in, reached}
use Rattle.paper.specs.Table.{rooms, rec}
use Rattle.laws.proofs.Entries.{names-kind}
use Rattle.laws.proofs.Scans.{any-true}
use Rattle.laws.proofs.Tests.{not-both, and_left, and_right, or_cases, same_truth}
use Rattle.judge_laws.specs.Tally.{last_below}
use Rattle.judge_laws.proofs.Lasts.{last-most, last-past, last-here}
use Rattle.sweep_demands.proofs.Reach.{Leads}
use Rattle.sweep.specs.declared.reach.Reached.{Reached}
use Rattle.sweep.specs.Listed.{inside}
use Rattle.sweep.specs.Marked.{marked, Led, Shut, Based, Held, Queued, Grown, Waits, Reaches}
use Rattle.sweep.proofs.Marks.{led-more, shut-more}

-- ---- along a directory's list: the entries from n on are followed, and the one before n is the next

pub record Followed (t : List ℕ) (marks : List Bool) (d n : ℕ) : Type 0 where
  pub each : (i : ℕ) → n ≤ i → i < rooms t → inside t d i ≡ true → Led t marks i
  pub next : 0 < n → inside t d (n - 1) ≡ true
  pub most : n ≤ rooms t

pub followed-none : (t : List ℕ) (m : List Bool) (d n : ℕ) → n ≡ last_below (inside t d) (rooms t) → Followed t m d n
followed-none t m d n e =
    record {
      each = λ i l b x. absurd (not-both x (last-past (inside t d) (rooms t) i (omega arith) b));
      next = λ l. rw e (last-here (inside t d) (rooms t) (rw e at l));
      most = omega (arith, e, last-most (inside t d) (rooms t));
    }

pub followed-more : (t : List ℕ) (r u : Reached) (d n c : ℕ) → 0 < n → Followed t r.marks d n → Grown r u → Led t u.marks (n - 1)
    → c ≡ last_below (inside t d) (n - 1) → Followed t u.marks d c
followed-more t r u d n c z f g l s =
    record {
      each = λ i a b x. by i a b x (near i a x);
      next = λ x. rw s (last-here (inside t d) (n - 1) (rw s at x));
      most = omega (arith, s, last-most (inside t d) (n - 1), f.most);
    }
  where
    -- past the next one there is none but this
    near : (i : ℕ) → c ≤ i → inside t d i ≡ true → (n ≤ i) ⊎ (i ≡ n - 1)
    near i a x =
        by_cases (ℕ_discrete i (n - 1)) (λ (y : i ≡ n - 1). inr y)
        (λ (y : i ≢ n - 1). by_cases (dec_lt i n)
        (λ (v : i < n). absurd (not-both x (last-past (inside t d) (n - 1) i (omega arith) (omega arith))))
        (λ (v : ¬ (i < n)). inl (omega arith)))

    by : (i : ℕ) → c ≤ i → i < rooms t → inside t d i ≡ true → (n ≤ i) ⊎ (i ≡ n - 1) → Led t u.marks i
    by i a b x (inl y) = led-more t r u i g (f.each i y b x)
    by i a b x (inr y) = rw y l

pub followed-all : (t : List ℕ) (m : List Bool) (d n : ℕ) → n ≡ 0 → Followed t m d n → Shut t m d
followed-all t m d n z f = record { each = λ i l x. f.each i (omega arith) l x }

-- ---- along the queue: its first heading is followed

pub waits-more : (t : List ℕ) (k : ℕ) (r u : Reached) (d : ℕ) → d ≡ get_or r.queue k 0 → k < r.end → Waits t k r → Grown r u
    → Shut t u.marks d → Waits t (k + 1) u
waits-more t k r u d v l a g s = record { each = λ h x. go h (g.new h x) }
  where
    was : (h : ℕ) → Shut t r.marks h ⊎ Queued r.queue k r.end h → Shut t u.marks h ⊎ Queued u.queue (k + 1) u.end h
    was h (inl x) = inl (shut-more t r u h g x)
    was h (inr x) =
        by_cases (ℕ_discrete x.place k)
        (λ (y : x.place ≡ k). let w : get_or r.queue k 0 ≡ h = rw y at x.here in inl (rw (sym (v ∙ w)) s))
        (λ (y : x.place ≢ k). inr (record {
          place = x.place;
          past = omega (arith, x.past);
          below = omega (arith, x.below, g.up);
          here = g.keeps x.place x.below ∙ x.here;
        }))

    go : (h : ℕ) → (marked r.marks h ≡ true) ⊎ Queued u.queue r.end u.end h → Shut t u.marks h ⊎ Queued u.queue (k + 1) u.end h
    go h (inl x) = was h (a.each h x)
    go h (inr x) = inr (record { place = x.place; past = omega (arith, x.past); below = x.below; here = x.here })

-- ---- at the end

module _ (t : List ℕ) (k : ℕ) (r : Reached) (held : Held t r) (a : Waits t k r) (l : r.end ≤ k) (b : Based t r.marks (rooms t)) where
  all-shut : (h : ℕ) → marked r.marks h ≡ true → Shut t r.marks h
  all-shut h x = go (a.each h x)
    where
      go : Shut t r.marks h ⊎ Queued r.queue k r.end h → Shut t r.marks h
      go (inl y) = y
      go (inr y) = let z : ⊥ = omega (arith, y.past, y.below) in absurd z

  in-marked : (n h : ℕ) → reached_in n t h ≡ true → marked r.marks h ≡ true
  unfolding reached_in
  in-marked zero h x = absurd (not-both x refl)
  in-marked (suc n) h x =
      let y = any-true (Leads t (reached_in n t) h) (rooms t) (and_right (is_kind 1 (rec t h)) _ x) in
      at (in-marked n) y.0 y.1 y.2 (eqb-true _ _ (and_left (is_kind 1 (rec t h)) _ x))
    where
      at : ((d : ℕ) → reached_in n t d ≡ true → marked r.marks d ≡ true) → (i : ℕ) → i < rooms t → Leads t (reached_in n t) h i ≡ true → byte (rec t h) 0 ≡ 1
          → marked r.marks h ≡ true
      at more i j y z = go (or_cases (is_base (rec t i)) _ (and_right (names h (rec t i)) _ y))
        where
          named : names h (rec t i) ≡ true
          named = and_left (names h (rec t i)) _ y

          entry : byte (rec t i) 0 ≡ 2
          entry = names-kind h (rec t i) named

          go : (is_base (rec t i) ≡ true) ⊎ (reached_in n t (holder_of (rec t i)) ≡ true) → marked r.marks h ≡ true
          go (inl v) = (b.each i j entry v).led h z named
          go (inr v) = ((all-shut (holder_of (rec t i)) (more (holder_of (rec t i)) v)).each i j (rw entry (eq-eqb (holder_of (rec t i)) _ refl))).led h z named

  pub reaches : Reaches t r.marks
  unfolding reached
  reaches = record { each = λ h. same_truth _ _ (held.only h) (in-marked (rooms t) h); long = held.long }
