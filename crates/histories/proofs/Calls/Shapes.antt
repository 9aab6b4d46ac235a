-- Every request's plan has that shape: a new file goes to free records, an entry over the one that bears its name or to a free record,
-- DPR, `WRS*` and DST ask write of the joined code, and else a file is freed only where the entry laid or cleared was the last to name it.
use mathlib.Core.Bool.{Bool, true, false, not, cond}
use mathlib.Core.List.{List, [], ◌∷◌, ◌++◌, append-nil}
use mathlib.Core.Logic.{◌⊎◌, inl, inr, ◌≢◌, by_cases}
use mathlib.Core.Path.{◌≡◌, refl, ◌∙◌}
use Prim.Native.Nat.{ℕ, ◌+◌, ◌≤◌, ◌<◌}
use native.Mathlib.Omega.{arith}
use native.Mathlib.Decide.{ℕ_discrete}
use lib.ListN.{length, take, length-set, get_or-append}
use lib.Seq.{get_or-take, length-take-le}
use borrow.Author.Tests.{ltb-false}
use Rattle.paper.specs.Scan.{Found, at, nowhere, all_below, any_below}
use Rattle.paper.specs.Record.{byte, level, heading_code, lifetime, entry_code, heading_named, names, blank, heading_record}
use Rattle.paper.specs.Layout.{name_field, boxed}
use Rattle.paper.specs.Table.{rooms, rec, lay, frees, room, text_room}
use Rattle.paper.specs.Declaration.{Part, or_else}
use Rattle.paper.specs.Line.{Word}
use Rattle.paper.specs.Check.{Check, passed, verdict}
use Rattle.paper.specs.Request.{Begin}
use Rattle.paper.specs.Code.{joined, no_write}
use Rattle.paper.specs.Entry.{named}
use Rattle.paper.specs.Sound.{implies}
use Rattle.paper.specs.Block.{blocks_of, block, file_text}
use Rattle.paper.specs.Walk.{State, applies, file, reached, to_last, last_name}
use Rattle.paper.specs.Store.{Store, puts, clears, run}
use Rattle.paper.specs.Count.{recounts}
use Rattle.paper.specs.Effect.{Planned, plan, halted, chain_of, to_holder, to_end, Making, borne, placing, needed, write_inhibited, making, filing, linking, new_file, freed, with_counts, lost, settled, recoded, renamed, crd_plan, wrs_plan, cpy_plan, dup_plan, chn_plan, dpr_plan, del_plan, bared, dst_plan, rds_plan, lst_plan, lst_base_plan, lst_tree_plan, lst_base_tree_plan, rewriting, rewrite_plan}
use Rattle.laws.proofs.Tests.{truth, not-both, false-by, implies-use}
use Rattle.laws.proofs.Scans.{any_here, any_none, all_true}
use Rattle.laws.proofs.Lists.{Every, every-parts, every_append, every-imp, every-each}
use Rattle.laws.proofs.Fields.{text-heading, name-total, length-entry, entry-record-kind}
use Rattle.laws.proofs.Entries.{found-stands, names-kind}
use Rattle.laws.proofs.Lay.{Whole, lay-same, lay-other, length-lay, length-rec, rooms-lay, length-blank, kinds-apart}
use Rattle.laws.proofs.Runs.{Lays, run-each, length_run, rooms-run}
use Rattle.laws.proofs.Recounts.{Recount, every-recounts}
use Rattle.laws.proofs.Rooms.{room-below, room-kind}
use Rattle.demands.proofs.Sound.Clauses.{Sound, entry-code}
use Rattle.demands.proofs.Request.Fair.{Idle, verdict-idle}
use Rattle.demands.proofs.Request.Steps.{last-looked, holder-by, end_by}
use Rattle.demands.proofs.Request.Walked.{walk-reached}
use Rattle.demands.proofs.SoundKept.Filed.{Roomy, Laid, each_laid, roomy, length-file, was_free, text-kind, small}
use Rattle.demands.proofs.SoundKept.Freed.{text-found}
use Rattle.demands.proofs.SoundKept.Emptied.{Medium}
use Rattle.demands.proofs.SoundKept.Rewriting.{Rewrites, head-again, mine-now, each-rewrites, Grants, rewrite-grants}
use Rattle.demands.proofs.Mending.Wipe.{Blanks, every-clears}
use Rattle.demands.proofs.Mending.Part.{ButCounts}
use Rattle.demands.proofs.Mending.Counts.{but-kind, but-recount}
use Rattle.demands.proofs.Mending.Less.{recounts-less}
use Rattle.demands.proofs.PowerCut.Razing as raze
use Rattle.demands.proofs.PowerCut.Cut.{counted, run-counted, rooms-counted, counted_is}
use Rattle.histories.proofs.Calls.Stores.{Put, heading, text, entry, cleared, recodes, rewrites, retexts, again, Puts, Of, Razing, Shaped, plain, freeing, razing, unnamed-still}

abbrev pub Shape : Bool → List ℕ → Planned → Type 0
Shape razes t (halted f) = Unit {0}
Shape razes t (plan p) = verdict p.checks ≡ passed → Shaped razes t p.stores

-- the stores of a DST whose checks pass
abbrev pub Razes : List ℕ → Planned → Type 0
Razes t (halted f) = Unit {0}
Razes t (plan p) = verdict p.checks ≡ passed → Razing t p.stores

-- a code that lets write through joined with another lets it through alone: all pairs of codes, computed
joins : all_below (λ a. all_below (λ b. implies (no_write a) (no_write (joined a b))) 8) 8 ≡ true
unfolding all_below
joins = refl

pub own_code : (a b : ℕ) → a ≤ 7 → b ≤ 7 → no_write (joined a b) ≡ false → no_write a ≡ false
own_code a b l m e =
    false-by (no_write a) (λ n. not-both
    (implies-use (no_write a) _ (all_true (λ b. implies (no_write a) (no_write (joined a b))) 8 b (omega arith)
    (all_true (λ a. all_below (λ b. implies (no_write a) (no_write (joined a b))) 8) 8 a (omega arith) joins)) n) e)

holder-shape : (t : List ℕ) (u place : ℕ) (w : Word) (f : State → Planned) → ((d : State) → Shape false t (f d)) → Shape false t (to_holder boxed t u place w f)
holder-shape t u place w f h = holder-by (Shape false t) place (λ _ _ _. tt) t u w f (λ d _. h d)

end-shape : (razes : Bool) (t : List ℕ) (u place : ℕ) (w : Word) (f : State → State → Planned)
    → ((d s : State) → to_last boxed t d (chain_of w) ≡ reached s → Shape razes t (f d s)) → Shape razes t (to_end boxed t u place w f)
end-shape razes t u place w f h = end_by (Shape razes t) place (λ _ _ _. tt) t u w f (λ d s _. h d s)

-- new records that are no entry
abbrev News : List ℕ → Store → Type 0
News t = Lays (λ i r. (byte (rec t i) 0 ≡ 0) × (byte r 0 ≢ 2) × Put t i r) (rooms t)

news-puts : (t : List ℕ) (ss : List Store) → Every (News t) ss → Every (Puts t) ss
news-puts t ss = every-imp (News t) (Puts t) ss (λ s l. record { within = l.within; size = l.size; holds = l.holds.2 })

module _ (t : List ℕ) (c : Sound t) where
  -- a new file
  file-news : (head body : List ℕ) → Roomy t head body → Every (News t) (new_file t head body)
  file-news head body n = every-imp (Lays (Laid t head body n) (rooms t)) (News t) (new_file t head body) one (each_laid t head body n)
    where
      new : (i : ℕ) (r : List ℕ) → Laid t head body n i r → (byte (rec t i) 0 ≡ 0) × (byte r 0 ≢ 2) × Put t i r
      new i r (inl (e, q)) =
          let a : byte (rec t i) 0 ≡ 0 = rw e (was_free t head body n 0 (omega arith)) in
          let k : byte r 0 ≡ 1 = rw q n.kind in
          (a, (λ (z : byte r 0 ≡ 2). omega arith), heading a k)
      new i r (inr (p, l, e, q)) =
          let a : byte (rec t i) 0 ≡ 0 = rw e (was_free t head body n (p + 1) (omega arith)) in
          let k : byte r 0 ≡ 3 = rw q (text-kind t head body n p) in (
            a,
            (λ (z : byte r 0 ≡ 2). omega arith),
            text a k (rw (q, text-heading (room t 0) p (block body p) (small t head body n c.few)) (was_free t head body n 0 (omega arith))),
          )

      one : (s : Store) → Lays (Laid t head body n) (rooms t) s → News t s
      one s l = record { within = l.within; size = l.size; holds = new s.at s.bytes l.holds }

  -- an entry laid, or cleared, and the counts corrected
  module _ (pre : List Store) (news : Every (News t) pre) (e : ℕ) (l : e < rooms t) (r : List ℕ) (size : length r ≡ 32) (n : byte r 0 ≢ 1)
      (put : Put t e r) where
    -- the table then, and with its counts
    m : List ℕ
    m = counted t pre (puts e r)

    main : List Store
    main = with_counts t (pre ++ puts e r ∷ [])

    rooms-m : rooms m ≡ rooms t
    unfolding m
    rooms-m = rooms-counted t pre (puts e r)

    whole-m : Whole m
    unfolding m
    whole-m = rw (length-lay (run t pre) e r, length_run t pre) c.whole

    at_pre : (i : ℕ) → i < rooms t → (rec (run t pre) i ≡ rec t i) ⊎ ((byte (rec t i) 0 ≡ 0) × (byte (rec (run t pre) i) 0 ≢ 2) × Put t i (rec (run t pre) i))
    at_pre = run-each (λ i r. (byte (rec t i) 0 ≡ 0) × (byte r 0 ≢ 2) × Put t i r) t pre news

    at_other : (i : ℕ) → i < rooms t → i ≢ e → rec m i ≡ rec (run t pre) i
    unfolding m
    at_other i b d = lay-other (run t pre) e r i size d (rw (rooms-run t pre) b)

    at-e : rec m e ≡ r
    unfolding m
    at-e = lay-same (run t pre) e r size (rw (rooms-run t pre) l)

    counts-put : Every (Puts t) (recounts m)
    counts-put = every-imp (Lays (Recount m) (rooms m)) (Puts t) (recounts m) one (every-recounts m)
      where
        was : (i : ℕ) (x : List ℕ) → byte x 0 ≡ 1 → ButCounts (rec m i) x → rec m i ≡ rec (run t pre) i
            → (rec (run t pre) i ≡ rec t i) ⊎ ((byte (rec t i) 0 ≡ 0) × (byte (rec (run t pre) i) 0 ≢ 2) × Put t i (rec (run t pre) i)) → Put t i x
        was i x k b q (inl y) = again (rw (q, y) at b)
        was i x k b q (inr y) = heading y.0 k

        put-at : (i : ℕ) (x : List ℕ) → i < rooms t → byte (rec m i) 0 ≡ 1 → ButCounts (rec m i) x → Put t i x
        put-at i x b k y =
            by_cases (ℕ_discrete i e) (λ (q : i ≡ e). absurd (n (rw (q, at-e) at k)))
            (λ (q : i ≢ e). was i x (but-kind (rec m i) x y ∙ k) y (at_other i b q) (at_pre i b))

        one : (x : Store) → Lays (Recount m) (rooms m) x → Puts t x
        one x h =
            let b : x.at < rooms t = rw rooms-m at h.within in
            let k : byte (rec m x.at) 0 ≡ 1 = h.holds.1.0 in
            record {
              within = b;
              size = h.size;
              holds = put-at x.at x.bytes b k (rw h.holds.0 (but-recount m x.at (rec m x.at) (length-rec m x.at h.within) k));
            }

    laid : Every (Puts t) main
    unfolding main m
    laid =
        rw (counted_is t pre (puts e r))
        (every_append (Puts t) pre (puts e r ∷ recounts (counted t pre (puts e r))) (news-puts t pre news)
        (record { within = l; size = size; holds = put }, counts-put))

    run-main : run t main ≡ run m (recounts m)
    unfolding main m
    run-main = rw (counted_is t pre (puts e r)) (run-counted t pre (puts e r) (recounts (counted t pre (puts e r))))

    -- what names a heading with the new records names it without
    names-m : (g i : ℕ) → i < rooms t → names g (rec m i) ≡ true → names g (rec (lay t e r) i) ≡ true
    names-m g i b x =
        by_cases (ℕ_discrete i e)
        (λ (q : i ≡ e). rw (q, lay-same t e r size l) (rw (q, at-e) at x))
        (λ (q : i ≢ e). rw (lay-other t e r i size q b) (go (at_pre i b) (rw (at_other i b q) at x)))
      where
        go : (rec (run t pre) i ≡ rec t i) ⊎ ((byte (rec t i) 0 ≡ 0) × (byte (rec (run t pre) i) 0 ≢ 2) × Put t i (rec (run t pre) i))
            → names g (rec (run t pre) i) ≡ true → names g (rec t i) ≡ true
        go (inl q) y = rw q at y
        go (inr q) y = absurd (q.1 (names-kind g (rec (run t pre) i) y))

    unnamed-main : (g : ℕ) → named (lay t e r) g ≡ false → named (run t main) g ≡ false
    unnamed-main g x = rw run-main (unnamed-still m (run m (recounts m)) g whole-m (recounts-less m) (unfold named in without))
      where
        without : any_below (λ i. names g (rec m i)) (rooms m) ≡ false
        without =
            any_none (λ i. names g (rec m i)) (rooms m) (λ i b. false-by _ (λ y.
            let d : i < rooms t = rw rooms-m at b in
            not-both (any_here (λ j. names g (rec (lay t e r) j)) (rooms (lay t e r)) i (rw rooms-lay d) (names-m g i d y)) (unfold named in x)))

    -- the file freed where no entry names it then
    over-shaped : byte (rec t e) 0 ≡ 2 → Shaped false t (with_counts t (pre ++ puts e r ∷ []) ++ settled t e r)
    unfolding settled lost
    over-shaped k = go (truth (named (lay t e r) g))
      where
        g : ℕ
        g = heading_named (rec t e)

        go : (named (lay t e r) g ≡ true) ⊎ (named (lay t e r) g ≡ false)
            → Shaped false t (with_counts t (pre ++ puts e r ∷ []) ++ cond (not (named (lay t e r) g)) (freed t g) [])
        go (inl x) = plain (rw (x, append-nil) (unfold main in laid))
        go (inr x) = freeing main g laid (c.targets e l k) (unnamed-main g x) (rw x (unfold main in refl))

  -- a new entry, after new records
  making-shape : (m : Making) (thirteen fifteen late : List Check) → (length m.first ≤ length (frees t) → Every (News t) m.first)
      → length m.entry ≡ 32 → byte m.entry 0 ≡ 2 → Shape false t (making boxed t m thirteen fifteen late)
  unfolding making
  making-shape m thirteen fifteen late news size kind v =
      let a = (every-parts Idle (thirteen ++ write_inhibited m.place m.directory ∷ fifteen) _ (verdict-idle _ v)).1 in
      go (borne boxed t m) refl (ltb-false _ _ a.1.1.0)
    where
      no-heading : byte m.entry 0 ≢ 1
      no-heading = λ (z : byte m.entry 0 ≡ 1). omega arith

      go : (x : Found) → borne boxed t m ≡ x → needed m x ≤ length (frees t) → Shaped false t (placing t m x)
      go (at e) q enough =
          let f = found-stands t m.directory.holder m.name e q in
          over-shaped m.first (news enough) e f.0 m.entry size no-heading (entry (inr f.1.kind) kind) f.1.kind
      go nowhere q enough =
          plain (unfold main in laid m.first (news (omega arith)) (room t (length m.first)) (room-below t (length m.first) (omega arith))
          m.entry size no-heading (entry (inl (room-kind t (length m.first) (omega arith))) kind))

  filing-shape : (place : ℕ) (w : Word) (d : State) (type lev code life n : ℕ) (body : List ℕ) (thirteen fifteen late : List Check)
      → Shape false t (making boxed t (filing boxed t place w d code (heading_record type lev code life n) body) thirteen fifteen late)
  filing-shape place w d type lev code life n body thirteen fifteen late =
      making-shape (filing boxed t place w d code head body) thirteen fifteen late
      (λ enough. file-news head body (roomy t type lev code life n body (omega (arith, length-file t head body, enough))))
      (length-entry code d.holder.heading (room t 0) d.holder.user (last_name (chain_of w)))
      (entry-record-kind code d.holder.heading (room t 0) d.holder.user (last_name (chain_of w)))
    where
      head : List ℕ
      head = heading_record type lev code life n

  -- ---- each function

  pub crd-shape : (u : ℕ) (name : Word) (lev code : Part) → Shape false t (crd_plan boxed t u name lev code)
  unfolding crd_plan
  crd-shape u name lev code =
      holder-shape t u 1 name _ (λ d. filing-shape 1 name d 0 (or_else lev 0) (or_else code 0) 1 0 [] [] [] [])

  pub wrs-shape : (u : ℕ) (body : List ℕ) (life : ℕ) (lev code : Part) (name : Word) → Shape false t (wrs_plan boxed t u body life lev code name)
  unfolding wrs_plan
  wrs-shape u body life lev code name =
      holder-shape t u 2 name _ (λ d. filing-shape 2 name d 1 (or_else lev 0) (or_else code 0) life (length body) body [] [] [])

  pub cpy-shape : (v u : ℕ) (old new : Word) (life lev code : Part) → Shape false t (cpy_plan boxed t v u old new life lev code)
  unfolding cpy_plan
  cpy-shape v u old new life lev code =
      end-shape false t v 1 old _ (λ _ f _. holder-shape t u 2 new _ (λ d.
      let source : List ℕ = rec t (file t f) in
      let body : List ℕ = file_text t (file t f) in
      filing-shape 2 new d 1 (or_else lev (level source)) (or_else code 0) (or_else life (lifetime source)) (length body) body
      _ _ _))

  pub dup-shape : (v u : ℕ) (to : Begin) (old new : Word) (code : Part) → Shape false t (dup_plan boxed t v u to old new code)
  unfolding dup_plan
  dup-shape v u to old new code =
      end-shape false t v 1 old _ (λ _ f _. holder-shape t u 2 new _ (λ d.
      making-shape (linking boxed t f d new code) [] _ _ (λ _. tt) (length-entry _ d.holder.heading (file t f) d.holder.user (last_name (chain_of new)))
      (entry-record-kind _ d.holder.heading (file t f) d.holder.user (last_name (chain_of new)))))

  pub chn-shape : (u : ℕ) (old link : Word) → Shape false t (chn_plan boxed t u old link)
  unfolding chn_plan
  chn-shape u old link =
      end-shape false t u 1 old _ (λ d f q _.
      let g = last-looked t d (chain_of old) f q in
      plain (
        record {
          within = g.within;
          size = length-renamed (rec t f.entry) (length-rec t f.entry g.within);
          holds = entry (inr g.stands.kind) (kind-renamed (rec t f.entry) (length-rec t f.entry g.within) g.stands.kind);
        },
        tt,
      ))
    where
      name : List ℕ
      name = last_name link.names

      front : (r : List ℕ) → length r ≡ 32 → length (take 9 r) ≡ 9
      front r s = length-take-le 9 r (omega arith)

      length-renamed : (r : List ℕ) → length r ≡ 32 → length (renamed boxed r name) ≡ 32
      length-renamed r s = unfold renamed in name-total (take 9 r) name (front r s)

      kind-renamed : (r : List ℕ) → length r ≡ 32 → byte r 0 ≡ 2 → byte (renamed boxed r name) 0 ≡ 2
      kind-renamed r s k =
          unfold renamed in
          get_or-append (take 9 r) (name_field boxed name) 0 0 (rw (front r s) (omega arith)) ∙ get_or-take 9 r 0 0 (omega arith) ∙ k

  pub dpr-shape : (u : ℕ) (name : Word) (code : ℕ) → code ≤ 7 → Shape false t (dpr_plan boxed t u name code)
  unfolding dpr_plan applies
  dpr-shape u name code b =
      end-shape false t u 1 name _ (λ d f q v.
      let g = walk-reached 65535 t c d (chain_of name) f q in
      let i = verdict-idle _ v in
      let w : no_write (applies t f.entry) ≡ false = rw g.looked.code at i.0 in
      plain (
        record {
          within = g.within;
          size = unfold recoded in length-set (rec t (file t f)) 3 code ∙ length-rec t (file t f) g.within;
          holds =
              recodes code b g.heading
              (own_code (heading_code (rec t (file t f))) (entry_code (rec t f.entry)) g.fields.code (entry-code _ g.own) w)
              i.1.0 refl;
        },
        tt,
      ))

  pub del-shape : (u place : ℕ) (name : Word) → Shape false t (del_plan boxed t u place name)
  unfolding del_plan
  del-shape u place name =
      end-shape false t u place name _ (λ d f q _.
      let g = last-looked t d (chain_of name) f q in
      over-shaped [] tt f.entry g.within blank length-blank (unfold blank in λ (z : ◌≡◌ {A = ℕ} 0 1). omega arith) (cleared g.stands.kind refl)
      g.stands.kind)

  -- what follows the heading of a file that is destroyed
  razing-post : (g : ℕ) (k : byte (rec t g) 0 ≡ 1)
      → Every (Lays (λ i r. (i ≢ g) × (Put t i r ⊎ ((r ≡ blank) × Of t g i))) (rooms t)) (raze.post t g c k)
  unfolding raze.post
  razing-post g k =
      every_append X (bared t g) (clears (λ i. names g (rec t i)) (rooms t) ++ recounts (raze.g t g c k))
      (every-each X _ (blocks_of t g) (λ p b.
      let y = text-found 65535 t g c k p b in
      let q : text_room t g p ≢ g = kinds-apart t (text_room t g p) g 3 1 y.1.kind k (omega arith) in
      record { within = y.0; size = length-blank; holds = (q, inr (refl, inr (y.1.kind, y.1.heading))) }))
      (every_append X (clears (λ i. names g (rec t i)) (rooms t)) (recounts (raze.g t g c k))
      (every-imp _ X (clears (λ i. names g (rec t i)) (rooms t)) entries (every-clears (λ i. names g (rec t i)) (rooms t)))
      (every-imp _ X (recounts (raze.g t g c k)) tallies (every-recounts (raze.g t g c k))))
    where
      X : Store → Type 0
      X = Lays (λ i r. (i ≢ g) × (Put t i r ⊎ ((r ≡ blank) × Of t g i))) (rooms t)

      entries : (x : Store) → Lays (Blanks (λ i. names g (rec t i))) (rooms t) x → X x
      entries x l =
          let e : byte (rec t x.at) 0 ≡ 2 = names-kind g (rec t x.at) l.holds.1 in
          let q : x.at ≢ g = kinds-apart t x.at g 2 1 e k (omega arith) in
          record { within = l.within; size = l.size; holds = (q, inl (cleared e l.holds.0)) }

      tallies : (x : Store) → Lays (Recount (raze.g t g c k)) (rooms (raze.g t g c k)) x → X x
      tallies x l =
          let n : List ℕ = raze.g t g c k in
          let i : ℕ = x.at in
          let b : i < rooms t = rw (raze.rooms-g t g c k) at l.within in
          let y = raze.stays t g c k i b l.holds.1.0 in
          let q : ButCounts (rec n i) x.bytes = rw l.holds.0 (but-recount n i (rec n i) (length-rec n i l.within) l.holds.1.0) in
          record { within = b; size = l.size; holds = (y.0, inl (again (rw y.1 at q))) }

  pub dst-razes : (u place : ℕ) (name : Word) → Razes t (dst_plan boxed t u place name)
  unfolding dst_plan applies
  dst-razes u place name =
      end_by (Razes t) place (λ _ _ _. tt) t u name _ (λ d f _ q v.
      let g = walk-reached 65535 t c d (chain_of name) f q in
      let w : no_write (applies t f.entry) ≡ false = rw g.looked.code at (verdict-idle _ v).0 in
      record {
        file = file t f;
        rest = raze.post t (file t f) c g.heading;
        kind = g.heading;
        write = own_code (heading_code (rec t (file t f))) (entry_code (rec t f.entry)) g.fields.code (entry-code _ g.own) w;
        each = razing-post (file t f) g.heading;
        is = raze.stores-are t (file t f) c g.heading;
      })

  pub dst-shape : (u place : ℕ) (name : Word) → Shape true t (dst_plan boxed t u place name)
  dst-shape u place name = go (dst_plan boxed t u place name) (dst-razes u place name)
    where
      go : (x : Planned) → Razes t x → Shape true t x
      go (halted f) h = tt
      go (plan p) h = λ v. razing refl (h v)

  pub rds-shape : (u : ℕ) (reply : List ℕ) (name : Word) (first count : Part) → Shape false t (rds_plan boxed t u reply name first count)
  unfolding rds_plan
  rds-shape u reply name first count = end-shape false t u 1 name _ (λ d f _ _. plain tt)

  pub lst-shape : (u : ℕ) (reply : List ℕ) (name : Word) → Shape false t (lst_plan boxed t u reply name)
  unfolding lst_plan
  lst-shape u reply name = end-shape false t u 1 name _ (λ d f _ _. plain tt)

  pub lst-base-shape : (u : ℕ) (reply : List ℕ) → Shape false t (lst_base_plan boxed t u reply)
  unfolding lst_base_plan
  lst-base-shape u reply _ = plain tt

  pub lst-tree-shape : (u : ℕ) (reply : List ℕ) (name : Word) (depth : ℕ) → Shape false t (lst_tree_plan boxed t u reply name depth)
  unfolding lst_tree_plan
  lst-tree-shape u reply name depth = end-shape false t u 1 name _ (λ d f _ _. plain tt)

  pub lst-base-tree-shape : (u : ℕ) (reply : List ℕ) (depth : ℕ) → Shape false t (lst_base_tree_plan boxed t u reply depth)
  unfolding lst_base_tree_plan
  lst-base-tree-shape u reply depth _ = plain tt

  -- a rewrite asks write of the joined code
  writable : (d e : State) (name : Word) → to_last boxed t d (chain_of name) ≡ reached e → no_write e.code ≡ false
      → no_write (heading_code (rec t (file t e))) ≡ false
  unfolding applies
  writable d e name q n =
      let g = walk-reached 65535 t c d (chain_of name) e q in
      let w : no_write (applies t e.entry) ≡ false = rw g.looked.code at n in
      own_code (heading_code (rec t (file t e))) (entry_code (rec t e.entry)) g.fields.code (entry-code _ g.own) w

  pub rewrite-shape : (u : ℕ) (body : List ℕ) (name : Word) → length body ≤ 24000 → Shape false t (rewrite_plan boxed t u body name)
  rewrite-shape u body name short = go (rewrite_plan boxed t u body name) (rewrite-grants t c u body name short)
    where
      put : (h : ℕ) → Medium t h → no_write (heading_code (rec t h)) ≡ false → (i : ℕ) (r : List ℕ) → Rewrites t h i r → Put t i r
      put h f w i r (head-again q mark n b z) = rewrites mark n b (rw q f.kind) (rw q w) (rw q z)
      put h f w i r (mine-now a b) = retexts h f.kind w a b

      go : (x : Planned) → Grants t u body name x → Shape false t x
      go (halted f) h = tt
      go (plan p) h = λ v.
          let g = h v in
          let f : ℕ = file t g.end in
          let w = writable g.directory g.end name g.last g.write in
          plain (rw g.stores (every-imp (Lays (Rewrites t f) (rooms t)) (Puts t) (rewriting t f body)
          (λ s l. record { within = l.within; size = l.size; holds = put f g.fit.file w s.at s.bytes l.holds })
          (each-rewrites t f body c g.fit)))
