-- The one entry that a plan lays, changes or clears stands where its own walk ended, before and after: every other store is of a heading or
-- of text. A walk of user u ends in the base list of u or in a directory, a give in a directory; so another user's base list stays, but for
-- what a DST clears there with the file that it named.
pub mod Razed
use mathlib.Core.Bool.{true, true≢false}
use mathlib.Core.List.{List, [], ◌∷◌, ◌++◌}
use mathlib.Core.Logic.{◌⊎◌, inl, inr, ◌≢◌, by_cases}
use mathlib.Core.Path.{◌≡◌, refl, sym, ap, ◌∙◌}
use Prim.Native.Nat.{ℕ, suc, ◌+◌, ◌-◌, ◌≤◌, ◌<◌}
use native.Mathlib.Omega.{arith}
use native.Mathlib.Decide.{ℕ_discrete}
use lib.ListN.{length, take, drop}
use lib.Seq.{take_all}
use borrow.Author.Tests.{ltb-false}
use Rattle.paper.specs.Scan.{Found, at, nowhere}
use Rattle.paper.specs.Record.{byte, heading_named, blank, level, lifetime, entry_code, heading_record, rewritten}
use Rattle.paper.specs.Layout.{boxed}
use Rattle.paper.specs.Table.{rooms, rec, frees, room, text_room}
use Rattle.paper.specs.Name.{dot_g, pointed, chain}
use Rattle.paper.specs.Declaration.{Part, or_else}
use Rattle.paper.specs.Line.{Word}
use Rattle.paper.specs.Check.{Check, passed, verdict}
use Rattle.paper.specs.Request.{Begin, own, take_of, give_to, Request, crd, wrs, rds, cpy, dup, chn, del, dst, dpr, lst, lst_base, lst_tree, lst_base_tree, rewrite, request, asked}
use Rattle.paper.specs.Code.{joined}
use Rattle.paper.specs.Entry.{Holder, base_list, stands}
use Rattle.paper.specs.Block.{blocks_of, file_text}
use Rattle.paper.specs.Walk.{State, start, file, reached, to_directory, last_name}
use Rattle.paper.specs.Store.{Store, puts, clear, run}
use Rattle.paper.specs.Count.{recounts}
use Rattle.paper.specs.Effect.{list_of, begun, Plan, Planned, plan, halted, chain_of, Making, borne, placing, needed, freed, lost, settled, write_inhibited, linking, making, entry_in, filing, recoded, crd_plan, wrs_plan, cpy_plan, dup_plan, chn_plan, dpr_plan, del_plan, dst_plan, rds_plan, lst_plan, lst_base_plan, lst_tree_plan, lst_base_tree_plan, rewriting, rewrite_plan}
use Rattle.paper.specs.Answer.{Outcome, ran, single, one_name, deleting, granted, requested}
use Rattle.laws.proofs.Tests.{either}
use Rattle.laws.proofs.Lists.{Every, every_append, every-each, every-imp, every-parts, every_take}
use Rattle.laws.proofs.Fields.{entry-record-kind, entry-holder, entry-user, length-entry}
use Rattle.laws.proofs.Entries.{Stands, stands-true, found-stands}
use Rattle.laws.proofs.Lay.{length-blank, length-rec, lay-same, lay-other, within}
use Rattle.laws.proofs.Runs.{Lays, run-each, rooms-run}
use Rattle.laws.proofs.Rooms.{room-below, room-kind}
use Rattle.laws.proofs.Recounts.{Recount, every-recounts, recounted-kind}
use Rattle.demands.proofs.Sound.Clauses.{Sound, sound-clauses, entry-code}
use Rattle.demands.proofs.Request.Fair.{Idle, verdict-idle}
use Rattle.demands.proofs.Request.Formed.{within-else, Within}
use Rattle.demands.proofs.Request.Begun.{Gives, list-most}
use Rattle.demands.proofs.Request.Read.{Told, CrdRead, WrsRead, CpyRead, DupRead, ChnRead}
use Rattle.demands.proofs.Request.Course.{Course, untried, tried, course}
use Rattle.demands.proofs.Request.Steps.{last-looked, holder-by, end_by}
use Rattle.demands.proofs.Request.Walked.{Ends, base, inside, joined-code, walk_ends, walk-reached}
use Rattle.demands.proofs.Request.Ended.{Passed, ran-by}
use Rattle.demands.proofs.SoundKept.Made.{Entered}
use Rattle.demands.proofs.SoundKept.Filed.{roomy, length-file}
use Rattle.demands.proofs.SoundKept.Freed.{text-found}
use Rattle.demands.proofs.SoundKept.Recoded.{recoded-like, length-recoded}
use Rattle.demands.proofs.SoundKept.Renamed.{renamed-like, length-renamed}
use Rattle.demands.proofs.SoundKept.Kept.{passed-sound, del-keeps, dst-keeps}
use Rattle.demands.proofs.SoundKept.Keeping.{entered}
use Rattle.demands.proofs.SoundKept.Retexted.{Mine, mine-not}
use Rattle.demands.proofs.SoundKept.Emptied.{Medium, head-kind}
use Rattle.demands.proofs.SoundKept.Rewriting.{Rewrites, head-again, mine-now, each-rewrites, Grants, rewrite-grants}
use Rattle.demands.proofs.Mending.Debris as loose
use Rattle.demands.proofs.Mending.Debris.{Loose}
use Rattle.demands.proofs.PowerCut.Cut.{Litters, counted, rooms-counted, counted_is, counted-stores}
use Rattle.demands.proofs.PowerCut.Littering.{littering}
use Rattle.demands.proofs.Standing.Razed.{Destroys, destroys-none, destroys-more, passed-razes, dst-razes}
use Rattle.demands.proofs.Answered.Ways.{is_del}

-- ---- what a store may do

-- an entry, if it is one, stands in d
abbrev pub Inside : Holder → List ℕ → Type 0
Inside d r = byte r 0 ≡ 2 → Stands d r

-- record i of t laid as r: it is record e, and an entry before or after stands in d; or it is no entry, before and after
pub data Laid (t : List ℕ) (d : Holder) (e i : ℕ) (r : List ℕ) : Type 0 where
  entry : i ≡ e → Inside d (rec t i) → Inside d r → Laid t d e i r
  other : byte (rec t i) 0 ≢ 2 → byte r 0 ≢ 2 → Laid t d e i r

-- the name by which an entry is laid, changed or cleared, and where its chain starts
pub record Aim : Type 0 where
  pub begin : Begin
  pub word : Word

abbrev pub aim : Begin → Word → Aim
aim b w = record { begin = b; word = w }

abbrev pub mine : Word → Aim
mine w = aim own w

-- d is where the walk to the directory of a name of user u ends: from the base list of u, or, by a give, from another user's `.G`
pub data Comes (t : List ℕ) (u : ℕ) (name : Aim) (d : Holder) : Type 0 where
  walked : (s : State) → to_directory boxed t 1 (start u) (chain_of name.word) ≡ reached s → d ≡ s.holder → Comes t u name d
  given : (n : ℕ) (link : List ℕ) (s : State) → name.begin ≡ give_to n → drop 1 name.word.names ≡ link ∷ []
      → to_directory boxed t 1 (start n) (dot_g ∷ link ∷ []) ≡ reached s → d ≡ s.holder → Comes t u name d

record Settles (t : List ℕ) (u : ℕ) (name : Aim) (ss : List Store) : Type 0 where
  holder : Holder
  entry : ℕ
  comes : Comes t u name holder
  each : Every (Lays (Laid t holder entry) (rooms t)) ss

-- the stores of a plan whose checks pass
abbrev Sets : List ℕ → ℕ → Aim → Planned → Type 0
Sets t u name (plan p) = verdict p.checks ≡ passed → Settles t u name p.stores
Sets t u name (halted f) = Unit {0}

-- a plan without stores
abbrev Shows : Planned → Type 0
Shows (plan p) = p.stores ≡ []
Shows (halted f) = Unit {0}

blank_none : byte blank 0 ≢ 2
unfolding blank
blank_none z = let y : ◌≡◌ {A = ℕ} 0 2 = z in let b : ⊥ = omega arith in absurd b

module _ (t : List ℕ) (c : Sound t) where
  freed-laid : (d : Holder) (e h : ℕ) → byte (rec t h) 0 ≡ 1 → Every (Lays (Laid t d e) (rooms t)) (freed t h)
  unfolding freed
  freed-laid d e h k = (
    record {
      within = within t h c.whole (omega arith);
      size = length-blank;
      holds = other (λ (z : byte (rec t h) 0 ≡ 2). omega arith) blank_none;
    },
    every-each _ _ (blocks_of t h) text-laid,
  )
    where
      text-laid : (p : ℕ) → p < blocks_of t h → Lays (Laid t d e) (rooms t) (clear (text_room t h p))
      text-laid p b =
          let g = text-found 65535 t h c k p b in
          let q = g.1.kind in
          record {
            within = g.0;
            size = length-blank;
            holds = other (λ (z : byte (rec t (text_room t h p)) 0 ≡ 2). omega arith) blank_none;
          }

  settled-laid : (d : Holder) (e : ℕ) (r : List ℕ) → e < rooms t → byte (rec t e) 0 ≡ 2 → Every (Lays (Laid t d e) (rooms t)) (settled t e r)
  unfolding settled
  settled-laid d e r l k = either (Every (Lays (Laid t d e) (rooms t))) (lost t e r) _ _ (freed-laid d e (heading_named (rec t e)) (c.targets e l k)) tt

  -- debris is no entry, in records that are free
  first-laid : (d : Holder) (e : ℕ) (ss : List Store) → Every (Litters t) ss → Every (Lays (Laid t d e) (rooms t)) ss
  first-laid d e ss = every-imp (Litters t) (Lays (Laid t d e) (rooms t)) ss one
    where
      debris : (r : List ℕ) → Loose t r → byte r 0 ≢ 2
      debris r (loose.head q) = λ (z : byte r 0 ≡ 2). omega arith
      debris r (loose.body q n) = λ (z : byte r 0 ≡ 2). omega arith

      one : (s : Store) → Litters t s → Lays (Laid t d e) (rooms t) s
      one s l = record { within = l.within; size = l.size; holds = other (rw l.holds.0 blank_none) (debris s.bytes l.holds.1) }

  -- counts are laid in headings, which are no entries and lie where none was
  counts-laid : (d : Holder) (pre : List Store) (e : ℕ) (r : List ℕ) → Every (Litters t) pre → e < rooms t → length r ≡ 32 → byte r 0 ≢ 1
      → Every (Lays (Laid t d e) (rooms t)) (recounts (counted t pre (puts e r)))
  counts-laid d pre e r lit l size n = every-imp (Lays (Recount m) (rooms m)) (Lays (Laid t d e) (rooms t)) (recounts m) one (every-recounts m)
    where
      m : List ℕ
      m = counted t pre (puts e r)

      was : (i : ℕ) → (rec (run t pre) i ≡ rec t i) ⊎ ((rec t i ≡ blank) × Loose t (rec (run t pre) i)) → byte (rec (run t pre) i) 0 ≡ 1
          → byte (rec t i) 0 ≢ 2
      was i (inl q) k = let y : byte (rec t i) 0 ≡ 1 = rw q at k in λ (z : byte (rec t i) 0 ≡ 2). omega arith
      was i (inr q) k = rw q.0 blank_none

      heading : (i : ℕ) → i < rooms t → byte (rec m i) 0 ≡ 1 → byte (rec t i) 0 ≢ 2
      heading i b k =
          by_cases (ℕ_discrete i e)
          (λ (q : i ≡ e). absurd (n (rw (q, lay-same (run t pre) e r size (rw (rooms-run t pre) l)) at k)))
          (λ (q : i ≢ e). was i (run-each _ t pre lit i b) (rw (lay-other (run t pre) e r i size q (rw (rooms-run t pre) b)) at k))

      one : (x : Store) → Lays (Recount m) (rooms m) x → Lays (Laid t d e) (rooms t) x
      one x h =
          let b : x.at < rooms t = rw (rooms-counted t pre (puts e r)) at h.within in
          let k : byte x.bytes 0 ≡ 1 =
          rw h.holds.0 (recounted-kind m x.at (rec m x.at) (length-rec m x.at h.within) ∙ h.holds.1.0) in
          record {
            within = b;
            size = h.size;
            holds = other (heading x.at b h.holds.1.0) (λ (z : byte x.bytes 0 ≡ 2). omega arith);
          }

  -- a new entry, given that the stores before it are debris
  making-sets : (u : ℕ) (name : Aim) (m : Making) (thirteen fifteen late : List Check) → (length m.first ≤ length (frees t) → Every (Litters t) m.first)
      → length m.entry ≡ 32 → Stands m.directory.holder m.entry → Comes t u name m.directory.holder
      → Sets t u name (making boxed t m thirteen fifteen late)
  unfolding making
  making-sets u name m thirteen fifteen late lit size st w v =
      let a = (every-parts Idle (thirteen ++ write_inhibited m.place m.directory ∷ fifteen) _ (verdict-idle _ v)).1 in
      go (borne boxed t m) refl (ltb-false _ _ a.1.1.0)
    where
      no-heading : byte m.entry 0 ≢ 1
      no-heading = λ (z : byte m.entry 0 ≡ 1). omega (arith, st.kind)

      go : (x : Found) → borne boxed t m ≡ x → needed m x ≤ length (frees t) → Settles t u name (placing t m x)
      go (at e) q enough =
          let f = found-stands t m.directory.holder m.name e q in
          record {
            holder = m.directory.holder;
            entry = e;
            comes = w;
            each =
                rw (counted-stores t m.first (puts e m.entry) (settled t e m.entry))
                (every_append _ m.first _ (first-laid m.directory.holder e m.first (lit enough)) (
                  record { within = f.0; size = size; holds = entry refl (λ _. f.1) (λ _. st) },
                  every_append _ (recounts (counted t m.first (puts e m.entry))) _
                      (counts-laid m.directory.holder m.first e m.entry (lit enough) f.0 size no-heading)
                      (settled-laid m.directory.holder e m.entry f.0 f.1.kind),
                ));
          }
      go nowhere q enough =
          let e : ℕ = room t (length m.first) in
          let within-e : e < rooms t = room-below t (length m.first) (omega arith) in
          let k = room-kind t (length m.first) (omega arith) in
          record {
            holder = m.directory.holder;
            entry = e;
            comes = w;
            each =
                rw (counted_is t m.first (puts e m.entry))
                (every_append _ m.first _ (first-laid m.directory.holder e m.first (lit (omega arith))) (
                  record {
                    within = within-e;
                    size = size;
                    holds = entry refl (λ (z : byte (rec t e) 0 ≡ 2). let y : ⊥ = omega arith in absurd y) (λ _. st);
                  },
                  counts-laid m.directory.holder m.first e m.entry (lit (omega arith)) within-e size no-heading,
                ));
          }

  -- an entry that may be laid in d stands there
  stands-new : (d : State) (code h : ℕ) (name : List ℕ) → Entered t d.holder code name → Stands d.holder (entry_in boxed d code h name)
  stands-new d code h name x =
      record {
        kind = entry-record-kind code d.holder.heading h d.holder.user name;
        heading = entry-holder code d.holder.heading h d.holder.user name x.fields.holders;
        user = entry-user code d.holder.heading h d.holder.user name (omega (arith, x.fields.users));
      }

  filing-sets : (u place : ℕ) (w : Word) (d : State) (type lev code life n : ℕ) (body : List ℕ) (thirteen fifteen late : List Check)
      → Entered t d.holder code (last_name (chain_of w)) → Comes t u (mine w) d.holder
      → Sets t u (mine w) (making boxed t (filing boxed t place w d code (heading_record type lev code life n) body) thirteen fifteen late)
  filing-sets u place w d type lev code life n body thirteen fifteen late x o =
      making-sets u (mine w) (filing boxed t place w d code head body) thirteen fifteen late
      (λ enough. littering t c head body (roomy t type lev code life n body (omega (arith, length-file t head body, enough))))
      (length-entry code d.holder.heading (room t 0) d.holder.user (last_name (chain_of w)))
      (stands-new d code (room t 0) (last_name (chain_of w)) x) o
    where
      head : List ℕ
      head = heading_record type lev code life n

  -- ---- each function

  -- a declared number, or the one taken where it is not given
  at_most : (b d : ℕ) (p : Part) → Within 0 b p → d ≤ b → or_else p d ≤ b
  at_most b d p h l = (within-else 0 b d p h (omega arith) l).1

  module _ (u : ℕ) (most : u ≤ 999999) where
    crd-sets : (name : Word) (lev code : Part) → CrdRead name lev code → Sets t u (mine name) (crd_plan boxed t u name lev code)
    unfolding crd_plan
    crd-sets name lev code h =
        holder-by (Sets t u (mine name)) 1 (λ _ _ _. tt) t u name _ (λ d q.
        filing-sets u 1 name d 0 (or_else lev 0) (or_else code 0) 1 0 [] [] [] []
        (entered t c u name d (or_else code 0) most h.name (at_most 7 0 code h.code (omega arith)) q) (walked d q refl))

    wrs-sets : (body : List ℕ) (life : ℕ) (lev code : Part) (name : Word) → WrsRead body life lev code name
        → Sets t u (mine name) (wrs_plan boxed t u body life lev code name)
    unfolding wrs_plan
    wrs-sets body life lev code name h =
        holder-by (Sets t u (mine name)) 2 (λ _ _ _. tt) t u name _ (λ d q.
        filing-sets u 2 name d 1 (or_else lev 0) (or_else code 0) life (length body) body [] [] []
        (entered t c u name d (or_else code 0) most h.name (at_most 7 0 code h.code (omega arith)) q) (walked d q refl))

    cpy-sets : (v : ℕ) (old new : Word) (life lev code : Part) → CpyRead old new life lev code → Sets t u (mine new) (cpy_plan boxed t v u old new life lev code)
    unfolding cpy_plan
    cpy-sets v old new life lev code h =
        end_by (Sets t u (mine new)) 1 (λ _ _ _. tt) t v old _ (λ _ f _ _. holder-by (Sets t u (mine new)) 2 (λ _ _ _. tt) t u new _ (λ d q.
        let source : List ℕ = rec t (file t f) in
        let body : List ℕ = file_text t (file t f) in
        filing-sets u 2 new d 1 (or_else lev (level source)) (or_else code 0) (or_else life (lifetime source)) (length body) body
        _ _ _
        (entered t c u new d (or_else code 0) most h.new (at_most 7 0 code h.code (omega arith)) q) (walked d q refl)))

    -- a new name of DUP, one's own or a give
    dup-comes : (to : Begin) (new : Word) → Gives to (begun to new) → (d : State)
        → to_directory boxed t 1 (start (list_of u to)) (chain_of (begun to new)) ≡ reached d → Comes t u (aim to new) d.holder
    unfolding chain pointed
    dup-comes own new g d q = walked d q refl
    dup-comes (take_of n) new g d q = absurd g
    dup-comes (give_to n) new g d q = go (drop 1 new.names) refl g.1 q
      where
        go : (ns : List (List ℕ)) → drop 1 new.names ≡ ns → suc (length ns) ≡ 2 → to_directory boxed t 1 (start n) (dot_g ∷ ns) ≡ reached d
            → Comes t u (aim (give_to n) new) d.holder
        go [] e l r = let z : ⊥ = omega arith in absurd z
        go (link ∷ []) e l r = given n link d refl e r refl
        go (link ∷ m ∷ ns) e l r = let z : ⊥ = omega arith in absurd z

    dup-sets : (v : ℕ) (to : Begin) (old new : Word) (code : Part) → DupRead old (begun to new) to code
        → Sets t u (aim to new) (dup_plan boxed t v (list_of u to) to old (begun to new) code)
    unfolding dup_plan
    dup-sets v to old new code h =
        end_by (Sets t u (aim to new)) 1 (λ _ _ _. tt) t v old _ (λ e f _ r.
        holder-by (Sets t u (aim to new)) 2 (λ _ _ _. tt) t (list_of u to) (begun to new) _ (λ d q.
        let s = walk-reached 65535 t c e (chain_of old) f r in
        let j : ℕ = joined (entry_code (rec t f.entry)) (or_else code 0) in
        let b = joined-code _ _ (entry-code (rec t f.entry) s.own) (at_most 7 0 code h.code (omega arith)) in
        let x = entered t c (list_of u to) (begun to new) d j (list-most u to (begun to new) h.gives most) h.new b q in
        making-sets u (aim to new) (linking boxed t f d (begun to new) code) [] _ _ (λ _. tt)
        (length-entry j d.holder.heading (file t f) d.holder.user (last_name (chain_of (begun to new))))
        (stands-new d j (file t f) (last_name (chain_of (begun to new))) x) (dup-comes to new h.gives d q)))

    chn-sets : (old link : Word) → ChnRead old link → Sets t u (mine old) (chn_plan boxed t u old link)
    unfolding chn_plan
    chn-sets old link h =
        end_by (Sets t u (mine old)) 1 (λ _ _ _. tt) t u old _ (λ d f q r _.
        let l = last-looked t d (chain_of old) f r in
        let size = length-rec t f.entry l.within in
        let like = renamed-like (rec t f.entry) (last_name link.names) size l.stands.kind in
        let same = like.entry l.stands.kind in
        record {
          holder = d.holder;
          entry = f.entry;
          comes = walked d q refl;
          each = (
            record {
              within = l.within;
              size = length-renamed (rec t f.entry) (last_name link.names) size l.stands.kind;
              holds = entry refl (λ _. l.stands) (λ k. record { kind = k; heading = same.holder ∙ l.stands.heading; user = same.user ∙ l.stands.user });
            },
            tt,
          );
        })

    dpr-sets : (name : Word) (code : ℕ) → Sets t u (mine name) (dpr_plan boxed t u name code)
    unfolding dpr_plan
    dpr-sets name code =
        end_by (Sets t u (mine name)) 1 (λ _ _ _. tt) t u name _ (λ d f q r _.
        let l = last-looked t d (chain_of name) f r in
        let k = c.targets f.entry l.within l.stands.kind in
        let in-h = within t (file t f) c.whole (omega arith) in
        let size = length-rec t (file t f) in-h in
        let like = (recoded-like (rec t (file t f)) code size k).kind in
        record {
          holder = d.holder;
          entry = f.entry;
          comes = walked d q refl;
          each = (
            record {
              within = in-h;
              size = length-recoded (rec t (file t f)) code size k;
              holds = other (λ (z : byte (rec t (file t f)) 0 ≡ 2). omega arith) (λ (z : byte (recoded (rec t (file t f)) code) 0 ≡ 2). omega arith);
            },
            tt,
          );
        })

    -- a rewrite lays no entry, and over none
    rewrite-sets : (body : List ℕ) (name : Word) → length body ≤ 24000 → Sets t u (mine name) (rewrite_plan boxed t u body name)
    rewrite-sets body name short = go (rewrite_plan boxed t u body name) (rewrite-grants t c u body name short)
      where
        free-not : (h : ℕ) (r : List ℕ) → Mine h r → byte r 0 ≢ 2
        free-not h r m = mine-not h r 2 m (omega arith) (omega arith)

        laid : (d : Holder) (e h i : ℕ) (r : List ℕ) → Medium t h → Rewrites t h i r → Laid t d e i r
        laid d e h i r f (head-again q mark n b z) =
            other (λ k. let y : byte (rec t h) 0 ≡ 2 = rw q at k in omega (arith, f.kind))
            (λ k. let y : byte (rewritten (rec t h) mark n) 0 ≡ 2 = rw z at k in omega (arith, head-kind t h c f mark n b))
        laid d e h i r f (mine-now a b) = other (free-not h (rec t i) a) (free-not h r b)

        go : (x : Planned) → Grants t u body name x → Sets t u (mine name) x
        go (halted f) h = tt
        go (plan p) h = λ v.
            let g = h v in
            let d : State = g.directory in
            let hd : ℕ = file t g.end in
            record {
              holder = d.holder;
              entry = g.end.entry;
              comes = walked d g.walked refl;
              each =
                  rw g.stores (every-imp _ _ (rewriting t hd body)
                  (λ s l.
                  record { within = l.within; size = l.size; holds = laid d.holder g.end.entry hd s.at s.bytes g.fit.file l.holds })
                  (each-rewrites t hd body c g.fit));
            }

    del-sets : (place : ℕ) (name : Word) → Sets t u (mine name) (del_plan boxed t u place name)
    unfolding del_plan run
    del-sets place name =
        end_by (Sets t u (mine name)) place (λ _ _ _. tt) t u name _ (λ d f q r _.
        let l = last-looked t d (chain_of name) f r in
        record {
          holder = d.holder;
          entry = f.entry;
          comes = walked d q refl;
          each = (
            record { within = l.within; size = length-blank; holds = entry refl (λ _. l.stands) (λ k. absurd (blank_none k)) },
            every_append _ (recounts (counted t [] (clear f.entry))) _
                (counts-laid d.holder [] f.entry blank tt l.within length-blank (unfold blank in λ (z : ◌≡◌ {A = ℕ} 0 1). omega arith))
                (settled-laid d.holder f.entry blank l.within l.stands.kind),
          );
        })

-- ---- what a request leaves

-- the table s that the stores of user u by this name make of t, all or some first of them
pub record Step (t : List ℕ) (u : ℕ) (name : Aim) (s : List ℕ) : Type 0 where
  pub sound : Sound t
  pub holder : Holder
  pub entry : ℕ
  pub comes : Comes t u name holder
  pub size : rooms s ≡ rooms t
  pub each : (i : ℕ) → i < rooms t → (rec s i ≡ rec t i) ⊎ Laid t holder entry i (rec s i)

-- name by name, up to some name
abbrev pub Steps : ℕ → List Word → List ℕ → List ℕ → Type 0
Steps u [] t s = s ≡ t
Steps u (w ∷ ws) t s = (s ≡ t) ⊎ ((m : List ℕ) × (Step t u (mine w) m × Steps u ws m s))

steps-none : (u : ℕ) (ws : List Word) (t : List ℕ) → Steps u ws t t
steps-none u [] t = refl
steps-none u (w ∷ ws) t = inl refl

step_by : (t : List ℕ) (u : ℕ) (w : Aim) (ss : List Store) → Sound t → Settles t u w ss → Step t u w (run t ss)
step_by t u w ss c x =
    record {
      sound = c;
      holder = x.holder;
      entry = x.entry;
      comes = x.comes;
      size = rooms-run t ss;
      each = run-each (Laid t x.holder x.entry) t ss x.each;
    }

first_by : (t : List ℕ) (u k : ℕ) (w : Aim) (ss : List Store) → Settles t u w ss → Settles t u w (take k ss)
first_by t u k w ss x = record { holder = x.holder; entry = x.entry; comes = x.comes; each = every_take _ k ss x.each }

passed-sets : (t : List ℕ) (u : ℕ) (w : Aim) (x : Planned) (p : Plan) → Sets t u w x → Passed x p → Settles t u w p.stores
passed-sets t u w x p h v = let s : Sets t u w (plan p) = rw v.plan at h in s v.checks

-- every function but DEL, cut or not
single_step : (t reply : List ℕ) (u k : ℕ) (w : Aim) (x : Planned) → Sound t → Sets t u w x
    → ((single t reply k (ran k x)).table ≡ t) ⊎ Step t u w (single t reply k (ran k x)).table
single_step t reply u k w x c h =
    ran-by (λ y. ((single t reply k y).table ≡ t) ⊎ Step t u w (single t reply k y).table) k x
    (λ _ _. inl refl)
    (λ p v _. inr (step_by t u w p.stores c (passed-sets t u w x p h v)))
    (λ p v _. inr (step_by t u w (take k p.stores) c (first_by t u k w p.stores (passed-sets t u w x p h v))))

-- RDS and LST store nothing
single-shows : (t reply : List ℕ) (k : ℕ) (x : Planned) → Shows x → (single t reply k (ran k x)).table ≡ t
unfolding run
single-shows t reply k x h =
    ran-by (λ y. (single t reply k y).table ≡ t) k x
    (λ _ _. refl)
    (λ p v _. rw (empty p v))
    (λ p v l. let e = ap length (empty p v) in let z : ⊥ = omega (arith, e) in absurd z)
  where
    empty : (p : Plan) → Passed x p → p.stores ≡ []
    empty p v = let s : Shows (plan p) = rw v.plan at h in s

del-steps : (u : ℕ) → u ≤ 999999 → (ws : List Word) (t reply : List ℕ) (k n made : ℕ) → Sound t
    → Steps u ws t (deleting (del_plan boxed) t u reply k n made ws).table
unfolding deleting
del-steps u l [] t reply k n made c = refl
del-steps u l (w ∷ ws) t reply k n made c = one (λ t₁. del-steps u l ws t₁ reply)
  where
    x : Planned
    x = del_plan boxed t u (n + 1) w

    sets : Sets t u (mine w) x
    sets = del-sets t c u l (n + 1) w

    rest : List ℕ → ℕ → ℕ → ℕ → Outcome
    rest t₁ k₁ n₁ made₁ = deleting (del_plan boxed) t₁ u reply k₁ n₁ made₁ ws

    one : ((t₁ : List ℕ) (k₁ n₁ made₁ : ℕ) → Sound t₁ → Steps u ws t₁ (rest t₁ k₁ n₁ made₁).table)
        → Steps u (w ∷ ws) t (one_name t reply k n made rest (ran k x)).table
    one again =
        ran-by (λ y. Steps u (w ∷ ws) t (one_name t reply k n made rest y).table) k x
        (λ _ _. inl refl)
        (λ p v _.
        inr (
          run t p.stores,
          (
            step_by t u (mine w) p.stores c (passed-sets t u (mine w) x p sets v),
            again (run t p.stores) (k - length p.stores) (n + 1) (made + length p.stores) (passed-sound t x p (del-keeps t u (n + 1) w c) v).clauses,
          ),
        ))
        (λ p v _.
        inr (
          run t (take k p.stores),
          (
            step_by t u (mine w) (take k p.stores) c (first_by t u k (mine w) p.stores (passed-sets t u (mine w) x p sets v)),
            steps-none u ws (run t (take k p.stores)),
          ),
        ))

-- a DST, name by name
pub dst-steps : (u : ℕ) (ws : List Word) (t reply : List ℕ) (k n made : ℕ) → Sound t → Destroys t (deleting (dst_plan boxed) t u reply k n made ws).table
unfolding deleting
dst-steps u [] t reply k n made c = destroys-none t
dst-steps u (w ∷ ws) t reply k n made c = one (λ t₁. dst-steps u ws t₁ reply)
  where
    x : Planned
    x = dst_plan boxed t u (n + 1) w

    rest : List ℕ → ℕ → ℕ → ℕ → Outcome
    rest t₁ k₁ n₁ made₁ = deleting (dst_plan boxed) t₁ u reply k₁ n₁ made₁ ws

    cut_at : (p : Plan) → Passed x p → (j : ℕ) → Destroys t (run t (take j p.stores))
    cut_at p v = passed-razes t x p (dst-razes t c u (n + 1) w) v

    one : ((t₁ : List ℕ) (k₁ n₁ made₁ : ℕ) → Sound t₁ → Destroys t₁ (rest t₁ k₁ n₁ made₁).table)
        → Destroys t (one_name t reply k n made rest (ran k x)).table
    one again =
        ran-by (λ y. Destroys t (one_name t reply k n made rest y).table) k x
        (λ _ _. destroys-none t)
        (λ p v _.
        destroys-more t (run t p.stores) _ (rw (take_all (length p.stores) p.stores (omega arith)) at (cut_at p v (length p.stores)))
        (again (run t p.stores) (k - length p.stores) (n + 1) (made + length p.stores) (passed-sound t x p (dst-keeps t u (n + 1) w c) v).clauses))
        (λ p v _. cut_at p v k)

-- the name by which a request lays, changes or clears an entry: its own walk
abbrev pub By : Request → Aim → Type 0
By (crd name lev code) w = w ≡ mine name
By (wrs life lev code name) w = w ≡ mine name
By (rds from name first count) w = ⊥
By (cpy from old new life lev code) w = w ≡ mine new
By (dup from old to new code) w = w ≡ aim to new
By (chn old link) w = w ≡ mine old
By (del ws) w = ⊥
By (dst ws) w = ⊥
By (dpr name code) w = w ≡ mine name
By (lst from name) w = ⊥
By lst_base w = ⊥
By (lst_tree from name depth) w = ⊥
By (lst_base_tree depth) w = ⊥
By (rewrite name) w = w ≡ mine name

-- as lent; or a step by the request's one name; or a DEL, name by name; or a DST
pub data Stood (t line body : List ℕ) (u : ℕ) (s : List ℕ) : Type 0 where
  lent : s ≡ t → Stood t line body u s
  once : (r : Request) (w : Aim) → asked line body ≡ request r → By r w → Step t u w s → Stood t line body u s
  names : (ws : List Word) → asked line body ≡ request (del ws) → Steps u ws t s → Stood t line body u s
  destroyed : (ws : List Word) → asked line body ≡ request (dst ws) → Destroys t s → Stood t line body u s

-- the theorem: every table, line, text, reply, user and stop number
pub entry-stood : (t line body reply : List ℕ) (u k : ℕ) → Stood t line body u (requested boxed t line body reply u k).table
unfolding granted rds_plan lst_plan lst_base_plan lst_tree_plan lst_base_tree_plan
entry-stood t line body reply u k = go (course t line body reply u)
  where
    by : (r : Request) → asked line body ≡ request r → (w : Aim) → By r w → (x : Planned)
        → ((single t reply k (ran k x)).table ≡ t) ⊎ Step t u w (single t reply k (ran k x)).table
        → Stood t line body u (single t reply k (ran k x)).table
    by r q w b x (inl e) = lent e
    by r q w b x (inr s) = once r w q b s

    one : (r : Request) → asked line body ≡ request r → (w : Aim) → By r w → (x : Planned) → Sound t → Sets t u w x
        → Stood t line body u (single t reply k (ran k x)).table
    one r q w b x c h = by r q w b x (single_step t reply u k w x c h)

    shows : (x : Planned) → Shows x → Stood t line body u (single t reply k (ran k x)).table
    shows x h = lent (single-shows t reply k x h)

    grants : Sound t → u ≤ 999999 → (r : Request) → asked line body ≡ request r → Told body r
        → Stood t line body u (granted boxed t body reply u k r).table
    grants c l (crd name lev code) q h = one _ q (mine name) refl (crd_plan boxed t u name lev code) c (crd-sets t c u l name lev code h)
    grants c l (wrs life lev code name) q h =
        one _ q (mine name) refl (wrs_plan boxed t u body life lev code name) c (wrs-sets t c u l body life lev code name h)
    grants c l (rds from name first count) q h =
        shows (rds_plan boxed t (list_of u from) reply (begun from name) first count)
        (end_by Shows 1 (λ _ _ _. tt) t (list_of u from) (begun from name) _ (λ _ _ _ _. refl))
    grants c l (cpy from old new life lev code) q h =
        one _ q (mine new) refl (cpy_plan boxed t (list_of u from) u (begun from old) new life lev code) c
        (cpy-sets t c u l (list_of u from) (begun from old) new life lev code h)
    grants c l (dup from old to new code) q h =
        one _ q (aim to new) refl (dup_plan boxed t (list_of u from) (list_of u to) to (begun from old) (begun to new) code) c
        (dup-sets t c u l (list_of u from) to (begun from old) new code h)
    grants c l (chn old link) q h = one _ q (mine old) refl (chn_plan boxed t u old link) c (chn-sets t c u l old link h)
    grants c l (del ws) q h = names ws q (del-steps u l ws t reply k 0 0 c)
    grants c l (dst ws) q h = destroyed ws q (dst-steps u ws t reply k 0 0 c)
    grants c l (dpr name code) q h = one _ q (mine name) refl (dpr_plan boxed t u name code) c (dpr-sets t c u l name code)
    grants c l (lst from name) q h =
        shows (lst_plan boxed t (list_of u from) reply (begun from name))
        (end_by Shows 1 (λ _ _ _. tt) t (list_of u from) (begun from name) _ (λ _ _ _ _. refl))
    grants c l lst_base q h = shows (lst_base_plan boxed t u reply) refl
    grants c l (lst_tree from name depth) q h =
        shows (lst_tree_plan boxed t (list_of u from) reply (begun from name) depth)
        (end_by Shows 1 (λ _ _ _. tt) t (list_of u from) (begun from name) _ (λ _ _ _ _. refl))
    grants c l (lst_base_tree depth) q h = shows (lst_base_tree_plan boxed t u reply depth) refl
    grants c l (rewrite name) q h =
        one _ q (mine name) refl (rewrite_plan boxed t u body name) c (rewrite-sets t c u l body name h.text)

    go : Course t line body reply u → Stood t line body u (requested boxed t line body reply u k).table
    go (untried f h e) = rw (e k) (lent refl)
    go (tried r h e) = rw (e k) (grants (sound-clauses t h.sized h.sound) h.user r h.asked h.told)

-- ---- another user's base list

-- what stands in the base list of user v is as before, byte for byte, and nothing else comes to stand there
pub record Apart (v : ℕ) (t s : List ℕ) : Type 0 where
  pub size : rooms s ≡ rooms t
  pub stays : (i : ℕ) → i < rooms t → stands (base_list v) (rec t i) ≡ true → rec s i ≡ rec t i
  pub comes : (i : ℕ) → i < rooms t → stands (base_list v) (rec s i) ≡ true → rec s i ≡ rec t i

-- no walk of user u, and no give, ends in the base list of another
walk-apart : (t : List ℕ) → Sound t → (u v : ℕ) (w : Aim) (d : Holder) → v ≢ u → Comes t u w d → d.heading ≡ 65535 → d.user ≢ v
walk-apart t c u v w d n (walked s q e) h z = go (walk_ends 65535 t c 1 u (chain_of w.word) s q)
  where
    go : Ends t u (chain_of w.word) s → ⊥
    go (base l y) = let x : d.user ≡ u = rw (e, y) in n (sym z ∙ x)
    go (inside l i) = let x : d.heading ≡ i.heading = rw (e, i.holder) in omega (arith, c.few, i.within)
walk-apart t c u v w d n (given m link s _ _ q e) h z = go (walk_ends 65535 t c 1 m (dot_g ∷ link ∷ []) s q)
  where
    go : Ends t m (dot_g ∷ link ∷ []) s → ⊥
    go (base l y) = let x : ⊥ = omega arith in absurd x
    go (inside l i) = let x : d.heading ≡ i.heading = rw (e, i.holder) in omega (arith, c.few, i.within)

step-apart : (t : List ℕ) (u v : ℕ) (w : Aim) (s : List ℕ) → v ≢ u → Step t u w s → Apart v t s
step-apart t u v w s n x = record { size = x.size; stays = stays; comes = comes }
  where
    in-base : (r : List ℕ) → Inside x.holder r → Stands (base_list v) r → ⊥
    in-base r h b =
        let y = h b.kind in
        walk-apart t x.sound u v w x.holder n x.comes (sym y.heading ∙ b.heading) (sym y.user ∙ b.user)

    stays : (i : ℕ) → i < rooms t → stands (base_list v) (rec t i) ≡ true → rec s i ≡ rec t i
    stays i l b = go (x.each i l)
      where
        go : (rec s i ≡ rec t i) ⊎ Laid t x.holder x.entry i (rec s i) → rec s i ≡ rec t i
        go (inl e) = e
        go (inr (entry q f g)) = absurd (in-base (rec t i) f (stands-true (base_list v) (rec t i) b))
        go (inr (other f g)) = absurd (f (stands-true (base_list v) (rec t i) b).kind)

    comes : (i : ℕ) → i < rooms t → stands (base_list v) (rec s i) ≡ true → rec s i ≡ rec t i
    comes i l b = go (x.each i l)
      where
        go : (rec s i ≡ rec t i) ⊎ Laid t x.holder x.entry i (rec s i) → rec s i ≡ rec t i
        go (inl e) = e
        go (inr (entry q f g)) = absurd (in-base (rec s i) g (stands-true (base_list v) (rec s i) b))
        go (inr (other f g)) = absurd (g (stands-true (base_list v) (rec s i) b).kind)

apart_none : (v : ℕ) (t s : List ℕ) → s ≡ t → Apart v t s
apart_none v t s e = rw e (record { size = refl; stays = λ _ _ _. refl; comes = λ _ _ _. refl })

apart_more : (v : ℕ) (t m s : List ℕ) → Apart v t m → Apart v m s → Apart v t s
apart_more v t m s a b =
    record {
      size = b.size ∙ a.size;
      stays = λ i l e. let q = a.stays i l e in b.stays i (rw a.size l) (rw q e) ∙ q;
      comes = λ i l e. let q = b.comes i (rw a.size l) e in q ∙ a.comes i l (rw q at e);
    }

steps_apart : (ws : List Word) (t : List ℕ) (u v : ℕ) (s : List ℕ) → v ≢ u → Steps u ws t s → Apart v t s
steps_apart [] t u v s n e = apart_none v t s e
steps_apart (w ∷ ws) t u v s n (inl e) = apart_none v t s e
steps_apart (w ∷ ws) t u v s n (inr (m, (x, y))) = apart_more v t m s (step-apart t u v (mine w) m n x) (steps_apart ws m u v s n y)

-- the request is no DST
abbrev pub NoDst : List ℕ → List ℕ → Type 0
NoDst line body = (ws : List Word) → asked line body ≡ request (dst ws) → ⊥

-- the theorem: a request of user u, cut or not, that is no DST, and the base list of every other user
pub others-stay : (t line body reply : List ℕ) (u k v : ℕ) → v ≢ u → NoDst line body → Apart v t (requested boxed t line body reply u k).table
others-stay t line body reply u k v n d = go (entry-stood t line body reply u k)
  where
    go : Stood t line body u (requested boxed t line body reply u k).table → Apart v t (requested boxed t line body reply u k).table
    go (lent e) = apart_none v t _ e
    go (once r w q b x) = step-apart t u v w _ n x
    go (names ws q x) = steps_apart ws t u v _ n x
    go (destroyed ws q x) = absurd (d ws q)

-- .. and a DST, cut or not: an entry, whoever's, is as it was, or is cleared and the heading that it named with it; and no entry comes
pub destroyed-entries : (t line body reply : List ℕ) (u k : ℕ) (ws : List Word) → asked line body ≡ request (dst ws)
    → Destroys t (requested boxed t line body reply u k).table
destroyed-entries t line body reply u k ws q = go (entry-stood t line body reply u k)
  where
    go : Stood t line body u (requested boxed t line body reply u k).table → Destroys t (requested boxed t line body reply u k).table
    go (lent e) = rw e (destroys-none t)
    go (once r w z b x) = let c : r ≡ dst ws = cc in absurd (rw c at b)
    go (names vs z x) = let c : del vs ≡ dst ws = cc in absurd (true≢false (ap is_del c))
    go (destroyed vs z x) = x
