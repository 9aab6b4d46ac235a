-- Every request's plan keeps soundness: an entry of a walked directory under a name that was read is as an entry should be, over the
-- entry that it displaces or in a free record; a copy is no longer than its source's blocks, 24 bytes each.
use mathlib.Core.Bool.{true, false}
use mathlib.Core.List.{List, [], append-nil}
use mathlib.Core.Logic.{inl, inr, ◌≢◌}
use mathlib.Core.Path.{◌≡◌, refl, ap, ◌∙◌}
use Prim.Native.Nat.{ℕ, ◌^◌, ◌≤◌, ◌<◌}
use native.Mathlib.Omega.{arith}
use lib.ListN.{length}
use borrow.Author.Tests.{leb-false}
use Rattle.paper.specs.Scan.{at, nowhere}
use Rattle.paper.specs.Record.{byte, level, lifetime, heading_record, entry_code}
use Rattle.paper.specs.Layout.{boxed}
use Rattle.paper.specs.Table.{rooms, rec, frees, room}
use Rattle.paper.specs.Name.{legal_base}
use Rattle.paper.specs.Declaration.{Part, or_else}
use Rattle.paper.specs.Line.{Word}
use Rattle.paper.specs.Check.{Check}
use Rattle.paper.specs.Request.{Begin}
use Rattle.paper.specs.Code.{joined}
use Rattle.paper.specs.Entry.{Holder, holder, full}
use Rattle.paper.specs.Block.{blocks, file_text}
use Rattle.paper.specs.Sound.{counts_true}
use Rattle.paper.specs.Walk.{State, start, file, reached, to_directory, last_name}
use Rattle.paper.specs.Store.{puts, run}
use Rattle.paper.specs.Effect.{Making, borne, placing, losing, settled, chain_of, making, filing, linking, crd_plan, wrs_plan, cpy_plan, dup_plan, chn_plan}
use Rattle.laws.proofs.Lists.{Every}
use Rattle.laws.proofs.Entries.{Stands, found-stands}
use Rattle.laws.proofs.Lay.{lay-other, within}
use Rattle.laws.proofs.Runs.{Lays, rooms-run}
use Rattle.laws.proofs.Blocks.{file-most}
use Rattle.demands.proofs.Sound.Clauses.{Sound, entry-code, length_most}
use Rattle.demands.proofs.Sound.Right.{Right}
use Rattle.demands.proofs.Request.Formed.{Named, Last, named-last, named_some, Within, within-else}
use Rattle.demands.proofs.Request.Read.{CrdRead, WrsRead, CpyRead, DupRead, ChnRead}
use Rattle.demands.proofs.Request.Walked.{Ends, base, inside, joined-code, walk_ends, ends-base, walk-reached}
use Rattle.demands.proofs.PowerCut.Cut.{counted, rooms-counted}
use Rattle.demands.proofs.SoundKept.Grown.{grown-stays}
use Rattle.demands.proofs.SoundKept.Built.{NewHeading, NewEntry}
use Rattle.demands.proofs.SoundKept.Filed.{length-file}
use Rattle.demands.proofs.SoundKept.Made.{Made, Entered, made-sound, made-over, displaced-same, new-file, filing-made, linking-made}
use Rattle.demands.proofs.SoundKept.Settled.{instead-found, displaced-sound}
use Rattle.demands.proofs.SoundKept.Recounted.{Gone, counted-right, settled-gone}
use Rattle.demands.proofs.SoundKept.Kept.{Keeps, holder-keeps, end-keeps, making-keeps, chn-keeps}

-- a declared number, or the one taken where it is not given
at_most : (b d : ℕ) (p : Part) → Within 0 b p → d ≤ b → or_else p d ≤ b
at_most b d p h l = (within-else 0 b d p h (omega arith) l).1

-- an entry stands in its holder
stands-in : (r : List ℕ) (d : Holder) → byte r 0 ≡ 2 → holder r ≡ d → Stands d r
stands-in r d k e = record { kind = k; heading = ap (λ (x : Holder). x.heading) e; user = ap (λ (x : Holder). x.user) e }

-- a simple file's heading
pub simple-heading : (lev code life n : ℕ) → lev ≤ 3 → code ≤ 7 → (1 ≤ life) × (life ≤ 2) → n ≤ 24000 → NewHeading 1 lev code life n
simple-heading lev code life n l b f s =
    record {
      types = omega arith;
      levels = l;
      codes = b;
      least = f.0;
      most = f.1;
      size = s;
      plain = λ (z : ◌≡◌ {A = ℕ} 1 0). let y : ⊥ = omega arith in absurd y;
    }

module _ (t : List ℕ) (c : Sound t) where
  -- a new entry, given that it may be laid once there is room for the stores before it
  made-keeps : (o : ℕ) (m : Making) → (length m.first ≤ length (frees t) → Made o t m)
      → (thirteen fifteen late : List Check) → Keeps t (making boxed t m thirteen fifteen late)
  made-keeps o m made = making-keeps t m over free
    where
      over : (e : ℕ) → borne boxed t m ≡ at e → length m.first ≤ length (frees t) → losing t e m.entry ≡ false
          → Right (run t (placing t m (at e)))
      over e b l v =
          let d = made l in
          let f = found-stands t m.directory.holder m.name e b in
          let s : Stands m.directory.holder m.entry = stands-in m.entry m.directory.holder d.fits.kind d.place in
          counted-right t m.first (puts e m.entry) (settled t e m.entry) (gone d e f.0 f.1.kind)
          (displaced-sound t m.first e m.entry c d.before.grown f.1.kind
          (instead-found t m.directory.holder m.name e m.entry b d.fits.size s) v
          (rw (displaced-same o t m c d e b) (made-over o t m c d e b)))
        where
          gone : Made o t m → (e : ℕ) → e < rooms t → byte (rec t e) 0 ≡ 2
              → Every (Lays (Gone (counted t m.first (puts e m.entry))) (rooms (counted t m.first (puts e m.entry)))) (settled t e m.entry)
          gone d e l k =
              settled-gone t c e m.entry l k (counted t m.first (puts e m.entry)) (rooms-counted t m.first (puts e m.entry))
              (λ j i n q.
              lay-other (run t m.first) e m.entry i d.fits.size n (rw (rooms-run t m.first) (within t i c.whole (omega arith)))
              ∙ grown-stays t (run t m.first) d.before.grown i c.whole (omega arith))

      free : borne boxed t m ≡ nowhere → full t m.directory.holder ≡ false → length m.first < length (frees t)
          → Right (run t (placing t m nowhere))
      free b f l =
          rw (append-nil (placing t m nowhere)) at
          (counted-right t m.first (puts (room t (length m.first)) m.entry) [] tt (made-sound o t m c (made (omega arith)) b (leb-false _ _ f) l))

  -- a new file, whose heading and entry are as they should be
  filing-keeps : (place : ℕ) (w : Word) (d : State) (type lev code life : ℕ) (text : List ℕ) → NewHeading type lev code life (length text)
      → Entered t d.holder code (last_name (chain_of w)) → (thirteen fifteen late : List Check)
      → Keeps t (making boxed t (filing boxed t place w d code (heading_record type lev code life (length text)) text) thirteen fifteen late)
  filing-keeps place w d type lev code life text h x =
      made-keeps (room t 0) (filing boxed t place w d code head text) (λ l.
      let roomy : blocks (length text) < length (frees t) = omega (arith, length-file t head text, l) in
      let n = new-file t type lev code life text h roomy in
      filing-made t place w d code head text c n x)
    where
      head : List ℕ
      head = heading_record type lev code life (length text)

  -- where a walk ends, an entry may be laid under a name that was read
  pub entered : (u : ℕ) (w : Word) (d : State) (code : ℕ) → u ≤ 999999 → Named w → code ≤ 7 → to_directory boxed t 1 (start u) (chain_of w) ≡ reached d
      → Entered t d.holder code (last_name (chain_of w))
  entered u w d code m n b q = go e
    where
      e : Ends t u (chain_of w) d
      e = walk_ends 65535 t c 1 u (chain_of w) d q

      last : Last w
      last = named-last w n

      legal : d.holder.heading ≡ 65535 → legal_base (last_name (chain_of w)) ≡ true
      legal z = last.base (omega (arith, ends-base 65535 t c u (chain_of w) d e z, named_some w n))

      entry : d.holder.heading < 256 ^ 2 → d.holder.user ≤ 999999 → (d.holder.heading ≢ 65535 → d.holder.user ≡ 0)
          → NewEntry code d.holder.heading d.holder.user (last_name (chain_of w))
      entry l v o = record { codes = b; holders = l; users = v; other = o; legal = last.link; base = legal }

      go : Ends t u (chain_of w) d → Entered t d.holder code (last_name (chain_of w))
      go (base l z) =
          let h : d.holder.heading ≡ 65535 = rw z in
          let v : d.holder.user ≡ u = rw z in
          record { fields = entry (omega arith) (omega arith) (λ y. absurd (y h)); there = inl h }
      go (inside l i) =
          let h : d.holder.heading ≡ i.heading = ap (λ (x : Holder). x.heading) i.holder in
          let v : d.holder.user ≡ 0 = ap (λ (x : Holder). x.user) i.holder in
          record { fields = entry (omega (arith, i.within, c.few)) (omega arith) (λ _. v); there = inr (rw h i.directory) }

  -- a copy has at most 24 bytes a block of its source
  copy-few : (h : ℕ) → h < rooms t → byte (rec t h) 0 ≡ 1 → length (file_text t h) ≤ 24000
  copy-few h l k = omega (arith, file-most t h, length_most (rec t h) ((c.own h l).heading k))

  -- ---- each function

  pub crd-keeps : (u : ℕ) (name : Word) (lev code : Part) → u ≤ 999999 → CrdRead name lev code → Keeps t (crd_plan boxed t u name lev code)
  unfolding crd_plan
  crd-keeps u name lev code m h =
      let l : or_else lev 0 ≤ 3 = at_most 3 0 lev h.level (omega arith) in
      let b : or_else code 0 ≤ 7 = at_most 7 0 code h.code (omega arith) in
      let n : NewHeading 0 (or_else lev 0) (or_else code 0) 1 0 =
      record { types = omega arith; levels = l; codes = b; least = omega arith; most = omega arith; size = omega arith; plain = λ _. (refl, refl) } in
      holder-keeps t u 1 name _ (λ d q.
      filing-keeps 1 name d 0 (or_else lev 0) (or_else code 0) 1 [] n (entered u name d (or_else code 0) m h.name b q) [] [] [])

  pub wrs-keeps : (u : ℕ) (text : List ℕ) (life : ℕ) (lev code : Part) (name : Word) → u ≤ 999999 → WrsRead text life lev code name
      → Keeps t (wrs_plan boxed t u text life lev code name)
  unfolding wrs_plan
  wrs-keeps u text life lev code name m h =
      let l : or_else lev 0 ≤ 3 = at_most 3 0 lev h.level (omega arith) in
      let b : or_else code 0 ≤ 7 = at_most 7 0 code h.code (omega arith) in
      holder-keeps t u 2 name _ (λ d q.
      filing-keeps 2 name d 1 (or_else lev 0) (or_else code 0) life text (simple-heading _ _ life (length text) l b h.lifetime h.text)
      (entered u name d (or_else code 0) m h.name b q) [] [] [])

  pub cpy-keeps : (v u : ℕ) (old new : Word) (life lev code : Part) → u ≤ 999999 → CpyRead old new life lev code
      → Keeps t (cpy_plan boxed t v u old new life lev code)
  unfolding cpy_plan
  cpy-keeps v u old new life lev code m h =
      end-keeps t v 1 old _ (λ e f _ r. holder-keeps t u 2 new _ (λ d q.
      let source : List ℕ = rec t (file t f) in
      let s = walk-reached 65535 t c e (chain_of old) f r in
      let l : or_else lev (level source) ≤ 3 = at_most 3 (level source) lev h.level s.fields.level in
      let b : or_else code 0 ≤ 7 = at_most 7 0 code h.code (omega arith) in
      let n = within-else 1 2 (lifetime source) life h.lifetime s.fields.lifetime.0 s.fields.lifetime.1 in
      filing-keeps 2 new d 1 (or_else lev (level source)) (or_else code 0) (or_else life (lifetime source)) (file_text t (file t f))
      (simple-heading _ _ _ _ l b n (copy-few (file t f) s.within s.heading))
      (entered u new d (or_else code 0) m h.new b q) _ _ _))

  pub dup-keeps : (v u : ℕ) (to : Begin) (old new : Word) (code : Part) → u ≤ 999999 → DupRead old new to code
      → Keeps t (dup_plan boxed t v u to old new code)
  unfolding dup_plan run
  dup-keeps v u to old new code m h =
      end-keeps t v 1 old _ (λ e f _ r. holder-keeps t u 2 new _ (λ d q.
      let s = walk-reached 65535 t c e (chain_of old) f r in
      let b : or_else code 0 ≤ 7 = at_most 7 0 code h.code (omega arith) in
      let j : ℕ = joined (entry_code (rec t f.entry)) (or_else code 0) in
      let x = entered u new d j m h.new (joined-code _ _ (entry-code (rec t f.entry) s.own) b) q in
      made-keeps 65535 (linking boxed t f d new code) (λ _. linking-made t f d new code c s.heading x) [] _ []))

  pub chn-kept : counts_true t ≡ true → (u : ℕ) (old link : Word) → ChnRead old link → Keeps t (chn_plan boxed t u old link)
  chn-kept e u old link h =
      chn-keeps t u old link (record { clauses = c; counts = e }) h.link (λ d q z.
      let one = ends-base 65535 t c u (chain_of old) d (walk_ends 65535 t c 1 u (chain_of old) d q) z in
      h.base (omega (arith, one, named_some old h.old)))
