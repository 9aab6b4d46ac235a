-- One pass over the table: what each kind of record adds to what is known, what it refutes, and what is known at the end.
-- Each clause is a scan of the records below i; a record of one kind moves the scans of its kind and leaves the others.
use mathlib.Core.Bool.{Bool, true, false, ◌&&◌, not, cond}
use mathlib.Core.List.{List}
use mathlib.Core.Logic.{◌⊎◌, inl, inr, ◌≢◌, by_cases}
use mathlib.Core.Path.{◌≡◌, refl, sym, ap, ◌∙◌}
use Prim.Native.Nat.{ℕ, ◌+◌, ◌≤◌, ◌<◌}
use native.Mathlib.Omega.{arith}
use native.Mathlib.Decide.{ℕ_discrete}
use lib.ListN.{length, get_or, set}
use lib.Dec.{eqb, leb}
use borrow.Author.Count.{below_more, below_none}
use borrow.Author.Tests.{eqb-true, eq-eqb, ne_eqb, leb-true, leb-false, le-leb, lt-leb}
use Rattle.judge_laws.specs.Mask.{stays, without}
use Rattle.judge_laws.specs.Pass.{base_entry, basing, Held, Found, Entries, Passed}
use Rattle.judge_laws.specs.Places.{text_fits, short_at, text_sound, texts, starts, slot_of, Laid, Marked, fresh}
use Rattle.judge_laws.specs.Shapes.{heading_right, entry_right, right_at, each_right}
use Rattle.judge_laws.specs.Twins.{hash_of, single, no_twins}
use Rattle.paper.specs.Entry.{in_directory, holder, stands, crowd, limit, named}
use Rattle.paper.specs.Record.{byte, is_kind, heading_type, text_length, simple, directory, heading_named, holder_of, user_of, heading_of, position, zeros}
use Rattle.paper.specs.Layout.{boxed}
use Rattle.paper.specs.Scan.{count_below}
use Rattle.paper.specs.Sound.{text_as_above, is_base, not_crowded, none_crowded, all_named, in_place, shaped}
use Rattle.paper.specs.Table.{rooms, rec}
use Rattle.laws.proofs.Counts.{count-more, count-up, count_most, count-mono}
use Rattle.laws.proofs.Entries.{stands-true}
use Rattle.laws.proofs.Lay.{Whole, within}
use Rattle.laws.proofs.Scans.{any-true}
use Rattle.laws.proofs.Sound.{every_here, every_true}
use Rattle.laws.proofs.Tests.{truth, and_left, and_right, and_both, and-no-right, false-by, implies-by}
use Rattle.records.specs.Numbered.{naming, holding}
use Rattle.records.proofs.Numbered.{numbered-same, numbered_more, numbered-none, counted-any, naming-more, holding-more}
use Rattle.judge_laws.proofs.Chains.{chains-none, chains-other}
use Rattle.judge_laws.proofs.Clauses.{each_all, each-not, right-heading, right-entry, right-text, right-other}
use Rattle.judge_laws.proofs.Mask.{rooms-without, whole-without, rec-stays, rec-entry, entry-without, text-without, simple-without, right-gone}
use Rattle.judge_laws.proofs.Shapes.{heading-view, entry-view, base-holder, base-user}
use Rattle.judge_laws.proofs.Sound.{shaped-not-each, shaped-not-text, shaped-not-twins, shaped-left}
use Rattle.judge_laws.proofs.Tests.{and-past}
use Rattle.judge_laws.proofs.Text.{by_slots, sound-not-long, sound-not-apart}
use Rattle.judge_laws.proofs.TextTurns.{marked-none, marked, unmarked, mark-refused, code-slot, starts-up, texts-none, texts-more, texts-most}
use Rattle.judge_laws.proofs.Twins.{single-all, twin-one}

module _ (t : List ℕ) (i : ℕ) where
  basing-more : basing t (i + 1) ≡ cond (base_entry t i) (basing t i + 1) (basing t i)
  unfolding basing
  basing-more = count-more (base_entry t) i

  pub basing-most : basing t i ≤ i
  unfolding basing
  basing-most = count_most (base_entry t) i

  -- an entry is counted for the directory that holds it
  module _ (k : is_kind 2 (rec t i) ≡ true) where
    pub held-base : (held : List ℕ) → Held t held i → is_base (rec t i) ≡ true → Held t held (i + 1)
    unfolding stands
    held-base held s b =
        let q : holder_of (rec t i) ≡ 65535 = eqb-true _ _ b in
        let e : (d : ℕ) → d < 2048 → holding t (i + 1) d ≡ holding t i d =
        λ d l. holding-more t i d ∙ rw (k, ne_eqb (holder_of (rec t i)) d (λ (x : holder_of (rec t i) ≡ d). let z : ⊥ = omega arith in z)) in
        record { counts = numbered-same (holding t i) (holding t (i + 1)) held s.counts e; most = λ d l. rw (e d l) (s.most d l) }

    module _ (z : user_of (rec t i) ≡ 0) where
      pub held_more : (held : List ℕ) (v : ℕ) → Held t held i → holder_of (rec t i) < 2048 → v ≡ get_or held (holder_of (rec t i)) 0 + 1
          → get_or held (holder_of (rec t i)) 0 < 112 → Held t (set held (holder_of (rec t i)) v) (i + 1)
      unfolding stands
      held_more held v s l e b =
          record {
            counts = numbered_more (holding t i) (holding t (i + 1)) held d v s.counts l (e ∙ rw (s.counts.at d l, own)) other;
            most = λ g m. by_cases (ℕ_discrete g d)
                (λ (q : g ≡ d). rw (q, own) (omega (arith, s.counts.at d l)))
                (λ (q : g ≢ d). rw (other g m q) (s.most g m));
          }
        where
          d : ℕ
          d = holder_of (rec t i)

          own : holding t (i + 1) d ≡ holding t i d + 1
          own = holding-more t i d ∙ rw (k, z, eq-eqb d d refl)

          other : (g : ℕ) → g < 2048 → g ≢ d → holding t (i + 1) g ≡ holding t i g
          other g m q = holding-more t i g ∙ rw (k, ne_eqb d g (λ x. q (sym x)))

      -- a directory that holds 112 before it is crowded
      pub held-full : (held : List ℕ) → Held t held i → is_base (rec t i) ≡ false → holder_of (rec t i) < 2048 → i < rooms t
          → 112 ≤ get_or held (holder_of (rec t i)) 0 → none_crowded t ≡ false
      unfolding none_crowded crowd stands holding
      held-full held s b l m f =
          false-by (none_crowded t) (λ e.
          let d = holder_of (rec t i) in
          let c : count_below (λ j. stands (holder (rec t i)) (rec t j)) (rooms t) ≤ limit (holder (rec t i)) =
          leb-true _ _ (every_true 2 (not_crowded t) t e i m (eqb-true _ _ k)) in
          let c' : holding t (rooms t) d ≤ 112 = rw (z, b) at c in
          let u = count-up (λ j. stands (in_directory d) (rec t j)) (i + 1) (rooms t) (omega arith) in
          let o : holding t (i + 1) d ≡ holding t i d + 1 = holding-more t i d ∙ rw (k, z, eq-eqb d d refl) in
          let y = s.counts.at d l in
          omega arith)

-- a record that is no entry leaves what the entries left
entries-other : (t named held head next : List ℕ) (left i : ℕ) → is_kind 2 (rec t i) ≡ false → Entries t named held head next left i
    → Entries t named held head next left (i + 1)
unfolding stands
entries-other t named held head next left i k s =
    let e : (d : ℕ) → holding t (i + 1) d ≡ holding t i d = λ d. holding-more t i d ∙ rw k in
    record {
      single = λ z. below_more _ _ (s.single z) (rw k);
      naming = numbered-same (naming t i) (naming t (i + 1)) named s.naming (λ h l. naming-more t i h ∙ rw k);
      holding = record {
        counts = numbered-same (holding t i) (holding t (i + 1)) held s.holding.counts (λ d l. e d);
        most = λ d l. rw (e d) (s.holding.most d l);
      };
      chains = record {
        chains = λ z. chains-other hash_of t head next i (s.chains.chains z) k;
        head_long = s.chains.head_long;
        next_long = s.chains.next_long;
      };
    }

-- no base list is crowded where there are few entries of base files, and no directory
few-bases : (t named held head next : List ℕ) (left : ℕ) → Entries t named held head next left (rooms t) → basing t (rooms t) ≤ 100
    → ((i : ℕ) → i < rooms t → byte (rec t i) 0 ≡ 2 → cond (is_base (rec t i)) (leb (user_of (rec t i)) 999999) (eqb (user_of (rec t i)) 0) ≡ true)
    → ((i : ℕ) → i < rooms t → byte (rec t i) 0 ≡ 2 → is_base (rec t i) ≡ false → holder_of (rec t i) < 2048)
    → none_crowded t ≡ true
unfolding none_crowded crowd holding basing
few-bases t named held head next left s few users there = every_here 2 (not_crowded t) t (λ i l k. go i l k (truth (is_base (rec t i))))
  where
    go : (i : ℕ) → i < rooms t → byte (rec t i) 0 ≡ 2 → (is_base (rec t i) ≡ true) ⊎ (is_base (rec t i) ≡ false) → not_crowded t i (rec t i) ≡ true
    go i l k (inl b) =
        let m = count-mono (λ j. stands (holder (rec t i)) (rec t j)) (base_entry t) (rooms t)
        (λ j _ e. let f = stands-true (holder (rec t i)) (rec t j) e in
        and_both (is_kind 2 (rec t j)) _ (eq-eqb _ _ f.kind) (eq-eqb _ _ (f.heading ∙ eqb-true _ _ b))) in
        rw b (le-leb (count_below (λ j. stands (holder (rec t i)) (rec t j)) (rooms t)) 100 (omega arith))
    go i l k (inr b) =
        let u : user_of (rec t i) ≡ 0 = eqb-true _ _ (rw b at (users i l k)) in
        rw (b, u) (le-leb (count_below (λ j. stands (in_directory (holder_of (rec t i))) (rec t j)) (rooms t)) 112 (s.holding.most _ (there i l k b)))

module _ (gone t : List ℕ) (w : Whole t) where
  -- an entry that is right names a record of the table, and stands in one or in a base list
  pub entry-names : (r : List ℕ) → entry_right (without gone t) r ≡ true → heading_named r < rooms t
  entry-names r e =
      let k : byte (rec (without gone t) (heading_named r)) 0 ≡ 1 = eqb-true _ _ (entry-view (without gone t) r e).named in
      rw (← (rooms-without gone t)) (within (without gone t) (heading_named r) (whole-without gone t w)
      (λ (z : byte (rec (without gone t) (heading_named r)) 0 ≡ 0). let y : ⊥ = omega arith in y))

  pub entry-stands : (r : List ℕ) → entry_right (without gone t) r ≡ true → is_base r ≡ false → (holder_of r < rooms t) × (user_of r ≡ 0)
  entry-stands r e b =
      let p = (entry-view (without gone t) r e).place in
      let d : directory (rec (without gone t) (holder_of r)) ≡ true = rw b at (base-holder (without gone t) r p) in
      let u : eqb (user_of r) 0 ≡ true = rw b at (base-user (without gone t) r p) in
      let k : byte (rec (without gone t) (holder_of r)) 0 ≡ 1 = eqb-true _ _ (and_left (is_kind 1 (rec (without gone t) (holder_of r))) _ d) in (
        rw (← (rooms-without gone t)) (within (without gone t) (holder_of r) (whole-without gone t w)
            (λ (z : byte (rec (without gone t) (holder_of r)) 0 ≡ 0). let y : ⊥ = omega arith in y)),
        eqb-true _ _ u,
      )

  -- what one record refutes
  module _ (i : ℕ) (l : i < rooms t) where
    pub refuted : right_at (without gone t) i ≡ false → shaped boxed (without gone t) ≡ false
    refuted e = shaped-not-each (without gone t) (each-not (without gone t) i (rw (rooms-without gone t) l) e)

    pub refuted-long : short_at (without gone t) i ≡ false → shaped boxed (without gone t) ≡ false
    unfolding text_sound
    refuted-long e =
        shaped-not-text (without gone t) (sound-not-long (without gone t) (whole-without gone t w) i (rw (rooms-without gone t) l) e)

    pub refuted-twin : single (without gone t) i ≡ false → shaped boxed (without gone t) ≡ false
    refuted-twin e = shaped-not-twins (without gone t) (twin-one (without gone t) i (rw (rooms-without gone t) l) e)

    pub refuted-entry : is_kind 2 (rec (without gone t) i) ≡ true → entry_right (without gone t) (rec t i) ≡ false → shaped boxed (without gone t) ≡ false
    refuted-entry k e = refuted (right-entry (without gone t) i (eqb-true _ _ k) ∙ rw (rec-entry gone t i l k) e)

    pub heading-right : byte (rec t i) 0 ≡ 1 → stays gone i ≡ true → right_at (without gone t) i ≡ heading_right (rec t i)
    heading-right k s =
        let z = rec-stays gone t w i s in
        right-heading (without gone t) i (ap (λ r. byte r 0) z ∙ k) ∙ rw z

    -- a heading that is not right, or too long: a directory's has length 0
    pub refuted-heading : byte (rec t i) 0 ≡ 1 → stays gone i ≡ true → (heading_right (rec t i) && leb (text_length (rec t i)) 24000) ≡ false
        → shaped boxed (without gone t) ≡ false
    refuted-heading k s f = go (truth (heading_right (rec t i)))
      where
        long : heading_right (rec t i) ≡ true → 24000 < text_length (rec t i) → shaped boxed (without gone t) ≡ false
        long e n =
            let v = heading-view (rec t i) e in
            by_cases (ℕ_discrete (heading_type (rec t i)) 0)
            (λ (q : heading_type (rec t i) ≡ 0). let y = (v.plain q).1 in let b : ⊥ = omega arith in absurd b)
            (λ (q : heading_type (rec t i) ≢ 0).
            let one : heading_type (rec t i) ≡ 1 = omega (arith, v.type) in
            refuted-long (rw (rec-stays gone t w i s, k, one) (lt-leb (text_length (rec t i)) 24000 n)))

        go : (heading_right (rec t i) ≡ true) ⊎ (heading_right (rec t i) ≡ false) → shaped boxed (without gone t) ≡ false
        go (inr e) = refuted (heading-right k s ∙ e)
        go (inl e) = long e (leb-false _ _ (rw e at f))

    -- a record of no other kind
    pub free-right : (byte (rec t i) 0 ≡ 1 → ⊥) → (byte (rec t i) 0 ≡ 2 → ⊥) → (byte (rec t i) 0 ≡ 3 → ⊥) → stays gone i ≡ true
        → right_at (without gone t) i ≡ zeros 0 32 (rec t i)
    free-right n1 n2 n3 s =
        let z = rec-stays gone t w i s in
        let y : byte (rec (without gone t) i) 0 ≡ byte (rec t i) 0 = ap (λ r. byte r 0) z in
        right-other (without gone t) i (λ q. n1 (sym y ∙ q)) (λ q. n2 (sym y ∙ q)) (λ q. n3 (sym y ∙ q)) ∙ rw z

  -- more slots than records, or another number of text records than of slots
  pub refuted-slots : (i : ℕ) → i < rooms t → rooms t < starts (without gone t) (i + 1) → shaped boxed (without gone t) ≡ false
  unfolding text_sound
  refuted-slots i l m =
      let q = rooms-without gone t in
      let b = starts-up (without gone t) (i + 1) (rooms (without gone t)) (omega arith) in
      let d = texts-most (without gone t) (rooms (without gone t)) in
      shaped-not-text (without gone t) (sound-not-apart (without gone t) (whole-without gone t w)
      (λ (e : texts (without gone t) (rooms (without gone t)) ≡ starts (without gone t) (rooms (without gone t))). omega arith))

  pub refuted-total : (texts (without gone t) (rooms t) ≡ starts (without gone t) (rooms t) → ⊥) → shaped boxed (without gone t) ≡ false
  unfolding text_sound
  refuted-total n =
      shaped-not-text (without gone t) (sound-not-apart (without gone t) (whole-without gone t w) (rw (rooms-without gone t) n))

  -- a text record takes its slot
  module _ (start mark : List ℕ) (i : ℕ) (a : Laid (without gone t) start) (l : i < rooms t) (m : Marked (without gone t) mark i)
      (k : byte (rec t i) 0 ≡ 3) (s : get_or gone i 0 ≡ 0) where
    same : rec (without gone t) i ≡ rec t i
    same = rec-stays gone t w i (eq-eqb _ _ s)

    kind : byte (rec (without gone t) i) 0 ≡ 3
    kind = ap (λ r. byte r 0) same ∙ k

    pub text-right : right_at (without gone t) i ≡ text_as_above 0 (rec t i)
    text-right = right-text (without gone t) i kind ∙ rw same

    stale : fresh (without gone t) mark i ≡ false → shaped boxed (without gone t) ≡ false
    unfolding text_sound
    stale e = shaped-not-text (without gone t) (mark-refused (without gone t) start mark i a (rw (rooms-without gone t) l) m e)

    -- in the file of heading h, from slot v on
    module _ (h v : ℕ) (eh : h ≡ heading_of (rec t i)) where
      misplaced : in_place (rec (without gone t) h) (rec t i) ≡ false → shaped boxed (without gone t) ≡ false
      misplaced e = stale (rw (kind, same, ← eh, e))

      pub text-refuted : (text_as_above 0 (rec t i) && in_place (rec (without gone t) h) (rec t i)) ≡ false → shaped boxed (without gone t) ≡ false
      text-refuted e = go (truth (text_as_above 0 (rec t i)))
        where
          go : (text_as_above 0 (rec t i) ≡ true) ⊎ (text_as_above 0 (rec t i) ≡ false) → shaped boxed (without gone t) ≡ false
          go (inl q) = misplaced (sym (and-past (text_as_above 0 (rec t i)) (in_place (rec (without gone t) h) (rec t i)) q) ∙ e)
          go (inr q) = refuted i l (text-right ∙ q)

      module _ (p : ℕ) (ep : p ≡ position (rec t i)) (e : in_place (rec (without gone t) h) (rec t i) ≡ true) (ev : v ≡ get_or start h 0) where
        slot : (v + p ≡ slot_of (without gone t) i) × (v + p < 2048)
        slot =
            code-slot (without gone t) start i h v p a kind (eh ∙ ap heading_of (sym same)) (ep ∙ ap position (sym same)) (rw same e) ev

        pub slot-below : v + p < 2048
        slot-below = slot.1

        fits : text_fits (without gone t) i ≡ true
        fits = rw (kind, same, ← eh, e)

        pub slot-taken : (get_or mark (v + p) 0 ≡ 0 → ⊥) → shaped boxed (without gone t) ≡ false
        slot-taken n = stale (and-no-right (text_fits (without gone t) i) _ (rw (kind, ← slot.0) (ne_eqb (get_or mark (v + p) 0) 0 n)))

        pub slot-marked : get_or mark (v + p) 0 ≡ 0 → Marked (without gone t) (set mark (v + p) 1) (i + 1)
        slot-marked z =
            rw slot.0 (marked (without gone t) start mark i a (rw (rooms-without gone t) l) m
            (and_both (text_fits (without gone t) i) _ fits (rw (kind, ← slot.0, z))) (eq-eqb _ _ kind))

  -- what is known before the first record
  pub passed_none : (start mark named held head next : List ℕ) (left : ℕ) → Laid (without gone t) start → length mark ≡ 2048 → length named ≡ 2048
      → length held ≡ 2048 → length head ≡ 2048 → length next ≡ 2048 → ((s : ℕ) → s < 2048 → get_or mark s 0 ≡ 0)
      → ((s : ℕ) → s < 2048 → get_or named s 0 ≡ 0) → ((s : ℕ) → s < 2048 → get_or held s 0 ≡ 0) → ((s : ℕ) → s < 2048 → get_or head s 0 ≡ 0)
      → Passed gone t mark named held head next 0 0 left 0
  unfolding naming holding basing count_below
  passed_none start mark named held head next left a lm ln lh lf lx zm zn zh zf =
      record {
        right = below_none _;
        short = below_none _;
        text = marked-none (without gone t) start mark a lm zm;
        entries = record {
          single = λ z. below_none _;
          naming = numbered-none (naming (without gone t) 0) named ln zn (λ h. refl);
          holding = record { counts = numbered-none (holding (without gone t) 0) held lh zh (λ h. refl); most = λ d l. omega arith };
          chains = record { chains = λ z. chains-none hash_of (without gone t) head next lf lx zf; head_long = lf; next_long = lx };
        };
        texted = sym (texts-none (without gone t));
        based = refl;
      }

  -- what one more record adds
  module _ (start mark named held head next : List ℕ) (x b u i : ℕ) (a : Laid (without gone t) start) (l : i < rooms t)
      (p : Passed gone t mark named held head next x b u i) where
    below : i < rooms (without gone t)
    below = rw (rooms-without gone t) l

    pub passed_entry : (named' held' head' next' : List ℕ) (b' u' : ℕ) → is_kind 2 (rec (without gone t) i) ≡ true
        → entry_right (without gone t) (rec t i) ≡ true → Entries (without gone t) named' held' head' next' u' (i + 1) → b' ≡ b + cond (is_base (rec t i)) 1 0
        → Passed gone t mark named' held' head' next' x b' u' (i + 1)
    passed_entry named' held' head' next' b' u' k e s q =
        record {
          right = below_more _ _ p.right (right-entry (without gone t) i k' ∙ rw z e);
          short = below_more _ _ p.short (rw k');
          text = unmarked (without gone t) start mark i a below p.text n;
          entries = s;
          texted = p.texted ∙ sym (texts-more (without gone t) i ∙ rw n (omega arith));
          based = q ∙ rw (p.based, ← z) (sym (basing-more (without gone t) i ∙ rw k (go (is_base (rec (without gone t) i)))));
        }
      where
        k' : byte (rec (without gone t) i) 0 ≡ 2
        k' = eqb-true _ _ k

        z : rec (without gone t) i ≡ rec t i
        z = rec-entry gone t i l k

        n : is_kind 3 (rec (without gone t) i) ≡ false
        n = rw k'

        go : (f : Bool) → cond f (basing (without gone t) i + 1) (basing (without gone t) i) ≡ basing (without gone t) i + cond f 1 0
        go true = refl
        go false = omega arith

    pub passed-other : (mark' : List ℕ) (x' : ℕ) → is_kind 2 (rec (without gone t) i) ≡ false → right_at (without gone t) i ≡ true
        → short_at (without gone t) i ≡ true → Marked (without gone t) mark' (i + 1) → x' ≡ x + cond (is_kind 3 (rec (without gone t) i)) 1 0
        → Passed gone t mark' named held head next x' b u (i + 1)
    passed-other mark' x' k r s m q =
        record {
          right = below_more _ _ p.right r;
          short = below_more _ _ p.short s;
          text = m;
          entries = entries-other (without gone t) named held head next u i k p.entries;
          texted = q ∙ rw p.texted (sym (texts-more (without gone t) i));
          based = p.based ∙ sym (basing-more (without gone t) i ∙ rw k);
        }

    -- no entry and no text: right, and short if it is a heading
    pub passed-plain : is_kind 2 (rec (without gone t) i) ≡ false → is_kind 3 (rec (without gone t) i) ≡ false → right_at (without gone t) i ≡ true
        → short_at (without gone t) i ≡ true → Passed gone t mark named held head next x b u (i + 1)
    passed-plain k n r s = passed-other mark x k r s (unmarked (without gone t) start mark i a below p.text n) (rw n (omega arith))

    pub passed-gone : stays gone i ≡ false → Passed gone t mark named held head next x b u (i + 1)
    passed-gone s =
        passed-plain (entry-without gone t i l ∙ rw (s, and-no-right (is_kind 2 (rec t i)) false refl))
        (text-without gone t w i ∙ rw (s, and-no-right (is_kind 3 (rec t i)) false refl)) (right-gone gone t i l s)
        (rw (simple-without gone t w i, s, and-no-right (simple (rec t i)) false refl))

    pub passed-heading : byte (rec t i) 0 ≡ 1 → stays gone i ≡ true → (heading_right (rec t i) && leb (text_length (rec t i)) 24000) ≡ true
        → Passed gone t mark named held head next x b u (i + 1)
    passed-heading k s e =
        let z = rec-stays gone t w i s in
        passed-plain (rw (z, k)) (rw (z, k)) (heading-right i l k s ∙ and_left (heading_right (rec t i)) _ e)
        (implies-by (simple (rec (without gone t) i)) _ (λ _. rw z (and_right (heading_right (rec t i)) _ e)))

    pub passed-free : (byte (rec t i) 0 ≡ 1 → ⊥) → (byte (rec t i) 0 ≡ 2 → ⊥) → (byte (rec t i) 0 ≡ 3 → ⊥) → stays gone i ≡ true
        → zeros 0 32 (rec t i) ≡ true → Passed gone t mark named held head next x b u (i + 1)
    passed-free n1 n2 n3 s e =
        let z = rec-stays gone t w i s in
        let y : (m : ℕ) → (byte (rec t i) 0 ≡ m → ⊥) → is_kind m (rec (without gone t) i) ≡ false = λ m n. rw z (ne_eqb (byte (rec t i) 0) m n) in
        passed-plain (y 2 n2) (y 3 n3) (free-right i l n1 n2 n3 s ∙ e) (rw (y 1 n1))

  -- an entry that is right as a record
  right-is-entry : (i : ℕ) → right_at (without gone t) i ≡ true → byte (rec (without gone t) i) 0 ≡ 2
      → entry_right (without gone t) (rec (without gone t) i) ≡ true
  right-is-entry i r k = sym (right-entry (without gone t) i k) ∙ r

  -- what holds an entry that is right is a directory
  pub found : (held : List ℕ) (i : ℕ) → Held (without gone t) held i → ((j : ℕ) → j < i → right_at (without gone t) j ≡ true) → Found gone t held
  unfolding holding
  found held i s r = record { at = at; long = s.counts.long }
    where
      go : (d j : ℕ) → d < 2048 → j < i → stands (in_directory d) (rec (without gone t) j) ≡ true → directory (rec (without gone t) d) ≡ true
      go d j l b e =
          let x = rec (without gone t) j in
          let f = stands-true (in_directory d) x e in
          let h : holder_of x ≡ d = f.heading in
          let n : is_base x ≡ false = ne_eqb (holder_of x) 65535 (λ (y : holder_of x ≡ 65535). let z : ⊥ = omega arith in z) in
          let p = (entry-view (without gone t) x (right-is-entry j (r j b) f.kind)).place in
          rw (← h) (rw n at (base-holder (without gone t) x p))

      at : (d : ℕ) → d < 2048 → (get_or held d 0 ≡ 0 → ⊥) → directory (rec (without gone t) d) ≡ true
      at d l n =
          let x : ℕ → Bool = λ j. stands (in_directory d) (rec (without gone t) j) in
          let p : not (eqb (count_below x i) 0) ≡ true = rw (ne_eqb (count_below x i) 0 (λ q. n (s.counts.at d l ∙ q))) in
          let a = any-true x i (sym (counted-any x i) ∙ p) in
          go d a.0 l a.1 a.2

  -- what is known past the last record
  module _ (start mark named held head next : List ℕ) (x b u : ℕ) (a : Laid (without gone t) start)
      (p : Passed gone t mark named held head next x b u (rooms t)) where
    all_right : each_right (without gone t) ≡ true
    all_right = each_all (without gone t) (λ j l. p.right j (rw (rooms-without gone t) at l))

    all-text : x ≡ starts (without gone t) (rooms t) → text_sound (without gone t) ≡ true
    all-text e =
        let q = rooms-without gone t in
        by_slots (without gone t) a.whole (λ j l. p.short j (rw q at l)) (λ j l. p.text.fits j (rw q at l))
        (rw q (sym p.texted ∙ e))
        (λ s l. rw q (p.text.once s l))

    pub passed-single : 0 < u → no_twins (without gone t) ≡ true
    passed-single z = single-all (without gone t) (λ j l. p.entries.single z j (rw (rooms-without gone t) at l))

    pub passed-all : x ≡ starts (without gone t) (rooms t) → all_named (without gone t) ≡ true → no_twins (without gone t) ≡ true
        → shaped boxed (without gone t) ≡ none_crowded (without gone t)
    unfolding text_sound
    passed-all e n o = shaped-left (without gone t) all_right n (all-text e) o

    -- an entry of it is right
    entry-right : (i : ℕ) → i < rooms (without gone t) → byte (rec (without gone t) i) 0 ≡ 2 → entry_right (without gone t) (rec (without gone t) i) ≡ true
    entry-right i l k = right-is-entry i (p.right i (rw (rooms-without gone t) at l)) k

    pub passed-few : length t ≤ 65536 → b ≤ 100 → none_crowded (without gone t) ≡ true
    passed-few small few =
        few-bases (without gone t) named held head next u (rw (rooms-without gone t) p.entries) (rw (rooms-without gone t) (omega (arith, p.based)))
        (λ i l k. base-user (without gone t) _ (entry-view (without gone t) (rec (without gone t) i) (entry-right i l k)).place)
        (λ i l k n. omega (arith, (entry-stands (rec (without gone t) i) (entry-right i l k) n).0))
