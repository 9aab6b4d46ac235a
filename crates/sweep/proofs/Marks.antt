-- A heading that is put in the queue was not marked, so the queue is no longer than the headings marked, and what is marked since stands in it since.
-- What is put in is reached, for its entry is a base file's or one of a reached directory.
use mathlib.Core.Bool.{Bool, true, false, ◌||◌}
use mathlib.Core.List.{List}
use mathlib.Core.Logic.{◌⊎◌, inl, inr, ◌≢◌, by_cases}
use mathlib.Core.Path.{◌≡◌, refl, sym, ◌∙◌}
use Prim.Native.Nat.{ℕ, ◌+◌, ◌≤◌, ◌<◌}
use native.Mathlib.Decide.{ℕ_discrete, dec_lt}
use native.Mathlib.Omega.{arith}
use lib.ListN.{length, set, length-set, replicate, length-replicate, get_or-replicate, get_or-eq_default}
use lib.Seq.{get_or-set_same, get_or-set_other}
use borrow.Author.Tests.{eqb-true}
use Rattle.paper.specs.Record.{byte, is_kind, holder_of, heading_named, names}
use Rattle.paper.specs.Scan.{count_below}
use Rattle.paper.specs.Sound.{is_base}
use Rattle.paper.specs.Sweep.{reached}
use Rattle.paper.specs.Table.{sized, rooms, rec}
use Rattle.laws.proofs.Counts.{count_most, count_less}
use Rattle.laws.proofs.Entries.{names-by}
use Rattle.laws.proofs.Lay.{within}
use Rattle.laws.proofs.Sound.{sized-whole}
use Rattle.laws.proofs.Tests.{not-both, and_left, and_right, or_right}
use Rattle.sweep_demands.proofs.Reach.{reached-heading, reached-by}
use Rattle.sweep.specs.declared.reach.Reached.{Reached}
use Rattle.sweep.specs.Listed.{inside}
use Rattle.sweep.specs.Marked.{marked, Led, Shut, Based, Held, Queued, Grown, Waits}

-- ---- marks and queue grow

pub grown_refl : (r : Reached) → Grown r r
grown_refl r = record { more = λ h x. x; new = λ h x. inl x; keeps = λ k l. refl; up = omega arith }

pub grown_trans : (r s u : Reached) → Grown r s → Grown s u → Grown r u
grown_trans r s u a b =
    record {
      more = λ h x. b.more h (a.more h x);
      new = λ h x. go h (b.new h x);
      keeps = λ k l. b.keeps k (omega (arith, a.up)) ∙ a.keeps k l;
      up = omega (arith, a.up, b.up);
    }
  where
    first : (h : ℕ) → (marked r.marks h ≡ true) ⊎ Queued s.queue r.end s.end h → (marked r.marks h ≡ true) ⊎ Queued u.queue r.end u.end h
    first h (inl x) = inl x
    first h (inr x) =
        inr (record { place = x.place; past = x.past; below = omega (arith, x.below, b.up); here = b.keeps x.place x.below ∙ x.here })

    go : (h : ℕ) → (marked s.marks h ≡ true) ⊎ Queued u.queue s.end u.end h → (marked r.marks h ≡ true) ⊎ Queued u.queue r.end u.end h
    go h (inl x) = first h (a.new h x)
    go h (inr x) = inr (record { place = x.place; past = omega (arith, x.past, a.up); below = x.below; here = x.here })

pub led-more : (t : List ℕ) (r s : Reached) (i : ℕ) → Grown r s → Led t r.marks i → Led t s.marks i
led-more t r s i g l = record { led = λ h k n. g.more h (l.led h k n) }

pub shut-more : (t : List ℕ) (r s : Reached) (d : ℕ) → Grown r s → Shut t r.marks d → Shut t s.marks d
shut-more t r s d g x = record { each = λ i l y. led-more t r s i g (x.each i l y) }

-- ---- the start

none-marked : (h : ℕ) → marked (replicate 2048 false) h ≡ false
none-marked h = by_cases (dec_lt h 2048) (λ (l : h < 2048). get_or-replicate {A = Bool} 2048 h false false l) (λ (l : ¬ (h < 2048)). past (omega arith))
  where
    past : 2048 ≤ h → marked (replicate 2048 false) h ≡ false
    past l =
        let z : length {A = Bool} (replicate 2048 false) ≤ h = rw (length-replicate {A = Bool} 2048 false) l in
        get_or-eq_default {A = Bool} (replicate 2048 false) false z

module _ (t : List ℕ) (r : Reached) (m : r.marks ≡ replicate 2048 false) (z : r.end ≡ 0) where
  pub held_none : length r.queue ≡ 2048 → Held t r
  held_none e =
      record {
        only = λ h x. absurd (not-both (rw m at x) (none-marked h));
        waiting = λ k l. let y : ⊥ = omega (arith, l, z) in absurd y;
        places = omega (arith, z);
        long = rw m refl;
        queued = e;
      }

  -- what is marked since the start waits
  pub waits-begun : (s : Reached) → Grown r s → Waits t 0 s
  waits-begun s g = record { each = λ h x. go h (g.new h x) }
    where
      go : (h : ℕ) → (marked r.marks h ≡ true) ⊎ Queued s.queue r.end s.end h → Shut t s.marks h ⊎ Queued s.queue 0 s.end h
      go h (inl x) = absurd (not-both (rw m at x) (none-marked h))
      go h (inr x) = inr (record { place = x.place; past = omega arith; below = x.below; here = x.here })

-- ---- numbers of the table

pub heading_room : (t : List ℕ) (d : ℕ) → sized t ≡ true → byte (rec t d) 0 ≡ 1 → d < 2048
heading_room t d w k = let z = sized-whole t w in let y = within t d z.0 (omega arith) in omega (arith, z.1)

pub reached-kind : (t : List ℕ) (d : ℕ) → sized t ≡ true → reached t d ≡ true → byte (rec t d) 0 ≡ 1
reached-kind t d w r = reached-heading t (sized-whole t w).0 d r

pub reached-room : (t : List ℕ) (d : ℕ) → sized t ≡ true → reached t d ≡ true → d < 2048
reached-room t d w r = heading_room t d w (reached-kind t d w r)

pub held-end : (t : List ℕ) (r : Reached) → Held t r → r.end ≤ 2048
held-end t r held = omega (arith, held.places, count_most (marked r.marks) 2048)

-- an entry of a reached directory
pub inside-entry : (t : List ℕ) (d i : ℕ) → inside t d i ≡ true → byte (rec t i) 0 ≡ 2
inside-entry t d i e = eqb-true _ _ (and_left (is_kind 2 (rec t i)) _ e)

pub inside-leads : (t : List ℕ) (d i : ℕ) → inside t d i ≡ true → reached t d ≡ true → (is_base (rec t i) || reached t (holder_of (rec t i))) ≡ true
inside-leads t d i e r =
    let q : holder_of (rec t i) ≡ d = eqb-true _ _ (and_right (is_kind 2 (rec t i)) _ e) in
    or_right (is_base (rec t i)) _ (rw q r)

-- ---- one entry

module _ (t : List ℕ) (i to : ℕ) (r : Reached) (w : sized t ≡ true) (held : Held t r) (named : to ≡ heading_named (rec t i)) where
  only-to : (h : ℕ) → names h (rec t i) ≡ true → to ≡ h
  only-to h n = named ∙ eqb-true _ _ (and_right (is_kind 2 (rec t i)) _ n)

  -- it names no heading
  pub led_none : byte (rec t to) 0 ≢ 1 → Led t r.marks i
  led_none n = record { led = λ h k x. absurd (n (rw (only-to h x) k)) }

  -- its heading is marked
  pub led_marked : marked r.marks to ≡ true → Led t r.marks i
  led_marked n = record { led = λ h k x. rw (sym (only-to h x)) n }

  -- a heading's number is one of the table's
  pub to_room : byte (rec t to) 0 ≡ 1 → to < 2048
  to_room k = heading_room t to w k

  module _ (k : byte (rec t to) 0 ≡ 1) (n : marked r.marks to ≡ false) where
    abbrev after : Reached
    after = record { marks = set r.marks to true; queue = set r.queue r.end to; end = r.end + 1 }

    here : marked after.marks to ≡ true
    here = get_or-set_same r.marks to true false (omega (arith, held.long, to_room k))

    other : (h : ℕ) → h ≢ to → marked after.marks h ≡ marked r.marks h
    other h x = get_or-set_other r.marks to h true false x

    more : (h : ℕ) → marked r.marks h ≡ true → marked after.marks h ≡ true
    more h x = by_cases (ℕ_discrete h to) (λ (y : h ≡ to). rw y here) (λ (y : h ≢ to). other h y ∙ x)

    counted : count_below (marked r.marks) 2048 < count_below (marked after.marks) 2048
    counted = count_less (marked r.marks) (marked after.marks) 2048 to (to_room k) n here (λ h l. more h)

    -- there is a place for it
    pub put_room : r.end < 2048
    put_room = omega (arith, counted, held.places, count_most (marked after.marks) 2048)

    pub put_grown : Grown r after
    put_grown =
        record {
          more = more;
          new = λ h x. by_cases (ℕ_discrete h to)
              (λ (y : h ≡ to). inr (record {
                place = r.end;
                past = omega arith;
                below = omega arith;
                here = get_or-set_same r.queue r.end to 0 (omega (arith, held.queued, put_room)) ∙ sym y;
              }))
              (λ (y : h ≢ to). inl (sym (other h y) ∙ x));
          keeps = λ j l. get_or-set_other r.queue r.end j to 0 (λ (z : j ≡ r.end). omega arith);
          up = omega arith;
        }

    pub put_led : Led t after.marks i
    put_led = record { led = λ h y x. rw (sym (only-to h x)) here }

    put-reached : i < rooms t → byte (rec t i) 0 ≡ 2 → (is_base (rec t i) || reached t (holder_of (rec t i))) ≡ true → reached t to ≡ true
    put-reached l b o = reached-by t (sized-whole t w).0 to i k l (names-by to (rec t i) b (sym named)) o

    pub put_held : i < rooms t → byte (rec t i) 0 ≡ 2 → (is_base (rec t i) || reached t (holder_of (rec t i))) ≡ true → Held t after
    put_held l b o =
        record {
          only = λ h x. by_cases (ℕ_discrete h to)
              (λ (y : h ≡ to). rw y (put-reached l b o))
              (λ (y : h ≢ to). held.only h (sym (other h y) ∙ x));
          waiting = λ j x. by_cases (ℕ_discrete j r.end)
              (λ (y : j ≡ r.end). rw (y, get_or-set_same r.queue r.end to 0 (omega (arith, held.queued, put_room))) (put-reached l b o))
              (λ (y : j ≢ r.end). rw (get_or-set_other r.queue r.end j to 0 y) (held.waiting j (omega arith)));
          places = omega (arith, counted, held.places);
          long = length-set r.marks to true ∙ held.long;
          queued = length-set r.queue r.end to ∙ held.queued;
        }

-- what an entry that reaches no more leaves as it was
pub ruleset unreached = (heading_room, led_none, led_marked, grown_refl)

-- ---- base files' entries

pub based_none : (t : List ℕ) (m : List Bool) → Based t m 0
based_none t m = record { each = λ i l. let z : ⊥ = omega arith in absurd z }

pub based-other : (t : List ℕ) (m : List Bool) (i : ℕ) → Based t m i → (byte (rec t i) 0 ≡ 2 → is_base (rec t i) ≡ true → ⊥) → Based t m (i + 1)
based-other t m i b n =
    record {
      each = λ j l k x. by_cases (ℕ_discrete j i)
          (λ (y : j ≡ i). absurd (n (rw y at k) (rw y at x)))
          (λ (y : j ≢ i). b.each j (omega arith) k x);
    }

pub based-more : (t : List ℕ) (r s : Reached) (i : ℕ) → Based t r.marks i → Grown r s → Led t s.marks i → Based t s.marks (i + 1)
based-more t r s i b g d =
    record {
      each = λ j l k x. by_cases (ℕ_discrete j i)
          (λ (y : j ≡ i). rw y d)
          (λ (y : j ≢ i). led-more t r s j g (b.each j (omega arith) k x));
    }

pub based-grown : (t : List ℕ) (r s : Reached) (n : ℕ) → Based t r.marks n → Grown r s → Based t s.marks n
based-grown t r s n b g = record { each = λ j l k x. led-more t r s j g (b.each j l k x) }
