-- The stores of `WRS M chain:link`, all made, file the sheet in the directory that the walk reached: over the entry that bears the
-- name, whose file is then settled, or in the free record after the new file's. What is corrected between is counts alone.
use mathlib.Core.Bool.{true, false, cond}
use mathlib.Core.List.{List, [], ◌∷◌, ◌++◌, append-nil}
use mathlib.Core.Logic.{◌⊎◌, inl, inr, ◌≢◌}
use mathlib.Core.Path.{◌≡◌, refl, sym, ap, ◌∙◌}
use Prim.Native.Nat.{ℕ, suc, ◌≤◌, ◌<◌}
use native.Mathlib.Omega.{arith}
use lib.ListN.{length}
use borrow.Author.Tests.{ltb-false}
use Rattle.paper.specs.Scan.{Found, at, nowhere}
use Rattle.paper.specs.Record.{byte, heading_named}
use Rattle.paper.specs.Layout.{boxed}
use Rattle.paper.specs.Table.{rooms, rec, lay, frees, room}
use Rattle.paper.specs.Declaration.{not_given}
use Rattle.paper.specs.Line.{Word}
use Rattle.paper.specs.Check.{passed, verdict}
use Rattle.paper.specs.Entry.{Holder, bears, named}
use Rattle.paper.specs.Block.{blocks}
use Rattle.paper.specs.Walk.{State, start, reached, to_directory, last_name}
use Rattle.paper.specs.Store.{Store, puts, run}
use Rattle.paper.specs.Count.{recounts}
use Rattle.paper.specs.Effect.{Plan, Planned, plan, halted, chain_of, Making, borne, placing, needed, with_counts, settled, freed, making, filing, wrs_plan}
use Rattle.laws.proofs.Tests.{truth}
use Rattle.laws.proofs.Lists.{Every, every-imp}
use Rattle.laws.proofs.Fields.{entry-code, entry-heading}
use Rattle.laws.proofs.Entries.{found-bears, bears-stands}
use Rattle.laws.proofs.Lay.{lay-other, rooms-lay, kinds-apart, within}
use Rattle.laws.proofs.Runs.{run-append, length_run}
use Rattle.laws.proofs.Rooms.{room-below, room-kind, room_apart}
use Rattle.demands.proofs.Sound.Clauses.{Sound}
use Rattle.demands.proofs.Request.Fair.{verdict-idle}
use Rattle.demands.proofs.Request.Read.{WrsRead}
use Rattle.demands.proofs.Request.Steps.{holder-by}
use Rattle.demands.proofs.Request.Ended.{Passed}
use Rattle.demands.proofs.SoundKept.Grown.{grown-stays}
use Rattle.demands.proofs.SoundKept.Filed.{length-file, small, was_free}
use Rattle.demands.proofs.SoundKept.FiledSound.{NewFile}
use Rattle.demands.proofs.SoundKept.Made.{Made, Entered, made-over, new-file, filing-made}
use Rattle.demands.proofs.SoundKept.Freed.{file-cleared}
use Rattle.demands.proofs.SoundKept.Settled.{Instead, instead-found, settled_same}
use Rattle.demands.proofs.SoundKept.Keeping.{simple-heading, entered}
use Rattle.demands.proofs.SoundKept.Counted.{EachAlike, alike-clauses, run-alike}
use Rattle.demands.proofs.SoundKept.Recounted.{settled-gone}
use Rattle.demands.proofs.Mending.Counts.{alike-sym, recounts-each}
use Rattle.demands.proofs.PowerCut.Cut.{run-counted, counted-stores}
use Rattle.job_demands.proofs.Kept.{Filed}
use Rattle.job_demands.proofs.Laid.{Tidied, sheet_heading, Laying, laid-filed}
use Rattle.job_demands.proofs.Counted.{filed-alike}

module _ (t text : List ℕ) (w : Word) (d : State) (c : Sound t) (short : length text ≤ 24000) (x : Entered t d.holder 0 (last_name (chain_of w))) where
  abbrev sheet : Making
  sheet = filing boxed t 2 w d 0 (sheet_heading text) text

  abbrev g : List ℕ
  g = run t sheet.first

  -- once there is room for its heading and text
  module _ (l : length sheet.first ≤ length (frees t)) where
    new : NewFile t (sheet_heading text) text
    new =
        new-file t 1 0 0 1 text (simple-heading 0 0 1 (length text) (omega arith) (omega arith) (omega arith, omega arith) short)
        (omega (arith, length-file t (sheet_heading text) text, l))

    made : Made (room t 0) t sheet
    made = filing-made t 2 w d 0 (sheet_heading text) text c new x

    laying : (e h : ℕ) (f : List ℕ) → e < rooms t → (byte (rec t e) 0 ≡ 0) ⊎ (bears boxed d.holder sheet.name (rec t e) ≡ true)
        → ((m : ℕ) → m ≤ blocks (length text) → room t m ≢ e) → Tidied t h (lay g e sheet.entry) f
        → Laying t text d.holder sheet.name sheet.entry e h f
    laying e h f b was apart y =
        record {
          new = new;
          size = made.fits.size;
          kind = made.fits.kind;
          code = entry-code 0 d.holder.heading (room t 0) d.holder.user sheet.name;
          place = made.place;
          name = made.name;
          names =
              entry-heading 0 d.holder.heading (room t 0) d.holder.user sheet.name
              (small t (sheet_heading text) text new.laid c.few);
          inside = b;
          was = was;
          apart = apart;
          tidied = y;
        }

    -- with the counts corrected once the entry is laid, and then these stores
    module _ (e h : ℕ) (b : e < rooms t) (was : (byte (rec t e) 0 ≡ 0) ⊎ (bears boxed d.holder sheet.name (rec t e) ≡ true))
        (apart : (m : ℕ) → m ≤ blocks (length text) → room t m ≢ e) (last : List Store) where
      abbrev a : List ℕ
      a = lay g e sheet.entry

      abbrev told : List ℕ
      told = run a (recounts a)

      made-is : run t (with_counts t (sheet.first ++ puts e sheet.entry ∷ []) ++ last) ≡ run told last
      made-is =
          rw (counted-stores t sheet.first (puts e sheet.entry) last)
          (run-counted t sheet.first (puts e sheet.entry) (recounts a ++ last) ∙ run-append a (recounts a) last)

      counted-filed : Every (λ x. (x.at < rooms a) × (length x.bytes ≡ 32)) last → Tidied t h a (run a last)
          → Sound (run t (with_counts t (sheet.first ++ puts e sheet.entry ∷ []) ++ last))
          → Filed t (run t (with_counts t (sheet.first ++ puts e sheet.entry ∷ []) ++ last)) d.holder sheet.name text
      counted-filed inside y s =
          rw made-is
          (filed-alike t (run a last) (run told last) d.holder sheet.name text sound₀ (sym long) each
          (laid-filed t text d.holder sheet.name sheet.entry e h (run a last) c sound₀ (laying e h (run a last) b was apart y)))
        where
          long : length (run a last) ≡ length (run told last)
          long = length_run a last ∙ sym (length_run told last ∙ length_run a (recounts a))

          each : EachAlike (run a last) (run told last)
          each = run-alike a told last (length_run a (recounts a)) (recounts-each a) inside

          sound₀ : Sound (run a last)
          sound₀ =
              alike-clauses 65535 (run told last) (run a last) (rw made-is at s) long
              (λ i l. alike-sym (rec (run a last) i) (rec (run told last) i) (each i (rw long l)))

    -- in a free record
    filed-free : length sheet.first < length (frees t) → Sound (run t (placing t sheet nowhere))
        → Filed t (run t (placing t sheet nowhere)) d.holder sheet.name text
    unfolding run
    filed-free k s =
        rw append-nil at (counted-filed e 0 (room-below t _ k) (inl (room-kind t _ k)) apart [] tt (inl refl) (rw append-nil s))
      where
        e : ℕ
        e = room t (length sheet.first)

        apart : (m : ℕ) → m ≤ blocks (length text) → room t m ≢ e
        apart m b q =
            let z : m ≡ length sheet.first = room_apart t m (length sheet.first) (omega (arith, length-file t (sheet_heading text) text)) k q in
            omega (arith, length-file t (sheet_heading text) text)

    -- over the entry that bears the name
    module _ (e : ℕ) (q : borne boxed t sheet ≡ at e) where
      there : (e < rooms t) × (bears boxed d.holder sheet.name (rec t e) ≡ true)
      there = found-bears t d.holder sheet.name e q

      kind : byte (rec t e) 0 ≡ 2
      kind = (bears-stands d.holder sheet.name (rec t e) there.1).kind

      abbrev h : ℕ
      h = heading_named (rec t e)

      abbrev laid : List ℕ
      laid = lay g e sheet.entry

      heading : byte (rec t h) 0 ≡ 1
      heading = c.targets e there.0 kind

      heading-same : rec laid h ≡ rec t h
      heading-same =
          let z : h < rooms t = within t h c.whole (omega (arith, heading)) in
          lay-other g e sheet.entry h made.fits.size (kinds-apart t h e 1 2 heading kind (omega arith)) (rw made.before.grown.long z)
          ∙ grown-stays t g made.before.grown h c.whole (omega (arith, heading))

      instead : Instead (rec t e) sheet.entry
      instead =
          instead-found t d.holder sheet.name e sheet.entry q made.fits.size
          (record {
            kind = made.fits.kind;
            heading = ap (λ (z : Holder). z.heading) made.place;
            user = ap (λ (z : Holder). z.user) made.place;
          })

      tidied : Tidied t h laid (run laid (settled t e sheet.entry))
      unfolding run
      tidied = rw (settled_same t g e sheet.entry c made.before.grown instead there.0 kind) (go (truth (named laid h)))
        where
          go : (named laid h ≡ true) ⊎ (named laid h ≡ false) → Tidied t h laid (run laid (cond (named laid h) [] (freed laid h)))
          go (inl z) = inl (rw z)
          go (inr z) = rw z (inr (heading, file-cleared h laid h (made-over (room t 0) t sheet c made e q) (rw heading-same heading)))

      filed-over : Sound (run t (placing t sheet (at e))) → Filed t (run t (placing t sheet (at e))) d.holder sheet.name text
      filed-over = counted-filed e h there.0 (inr there.1) apart (settled t e sheet.entry) inside tidied
        where
          apart : (m : ℕ) → m ≤ blocks (length text) → room t m ≢ e
          apart m b = kinds-apart t (room t m) e 0 2 (was_free t (sheet_heading text) text new.laid m b) kind (omega arith)

          rooms-laid : rooms laid ≡ rooms t
          rooms-laid = rooms-lay g e sheet.entry ∙ rw made.before.grown.long

          stays : (j i : ℕ) → i ≢ e → byte (rec t i) 0 ≡ suc j → rec laid i ≡ rec t i
          stays j i o q =
              lay-other g e sheet.entry i made.fits.size o (rw made.before.grown.long (within t i c.whole (omega arith)))
              ∙ grown-stays t g made.before.grown i c.whole (omega arith)

          inside : Every (λ x. (x.at < rooms laid) × (length x.bytes ≡ 32)) (settled t e sheet.entry)
          inside =
              every-imp _ _ (settled t e sheet.entry) (λ x l. (l.within, l.size))
              (settled-gone t c e sheet.entry there.0 kind laid rooms-laid stays)

  -- whichever it is: the check of room passed
  pub sheet-filed : needed sheet (borne boxed t sheet) ≤ length (frees t) → Sound (run t (placing t sheet (borne boxed t sheet)))
      → Filed t (run t (placing t sheet (borne boxed t sheet))) d.holder sheet.name text
  sheet-filed = go (borne boxed t sheet) refl
    where
      go : (f : Found) → borne boxed t sheet ≡ f → needed sheet f ≤ length (frees t) → Sound (run t (placing t sheet f))
          → Filed t (run t (placing t sheet f)) d.holder sheet.name text
      go (at e) q l = filed-over l e q
      go nowhere q l = filed-free (omega arith) (omega arith)

-- ---- the plan

-- where its checks pass, the plan's stores file the sheet in the directory that the walk reaches
abbrev pub Files : List ℕ → ℕ → List ℕ → Word → Planned → Type 0
Files t u text w (halted f) = Unit {0}
Files t u text w (plan p) =
    verdict p.checks ≡ passed → Sound (run t p.stores)
    → (d : State) × (to_directory boxed t 1 (start u) (chain_of w) ≡ reached d) × Filed t (run t p.stores) d.holder (last_name (chain_of w)) text

pub wrs-files : (t : List ℕ) (u : ℕ) (text : List ℕ) (w : Word) → Sound t → u ≤ 999999 → WrsRead text 1 not_given not_given w
    → Files t u text w (wrs_plan boxed t u text 1 not_given not_given w)
unfolding wrs_plan making
wrs-files t u text w c m r =
    holder-by (Files t u text w) 2 (λ _ _ _. tt) t u w _ (λ d q v.
    let x = entered t c u w d 0 m r.name (omega arith) q in
    λ s. (d, q, sheet-filed t text w d c r.text x (ltb-false _ _ (verdict-idle _ v).1.1.1.0) s))

pub passed-files : (t : List ℕ) (u : ℕ) (text : List ℕ) (w : Word) (y : Planned) (p : Plan) → Files t u text w y → Passed y p → Sound (run t p.stores)
    → (d : State) × (to_directory boxed t 1 (start u) (chain_of w) ≡ reached d) × Filed t (run t p.stores) d.holder (last_name (chain_of w)) text
passed-files t u text w y p h v = let s : Files t u text w (plan p) = rw v.plan at h in s v.checks
