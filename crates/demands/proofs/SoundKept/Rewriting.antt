-- What `WRS*` does where its checks pass: it has walked to a simple file of lifetime M that may be written, and there is room for the text.
-- So its stores are those of a rewrite, and the table after them is sound.
use mathlib.Core.Bool.{true, false}
use mathlib.Core.List.{List, ◌++◌}
use mathlib.Core.Logic.{◌≢◌}
use mathlib.Core.Path.{◌≡◌, refl, sym, ◌∙◌}
use Prim.Native.Nat.{ℕ, ◌+◌, ◌≤◌, ◌<◌}
use native.Mathlib.Omega.{arith}
use lib.ListN.{length, length-append}
use borrow.Author.Tests.{eq-eqb, not-false, eqb-false, ltb-false}
use Rattle.paper.specs.Record.{byte, is_kind, lifetime, heading_of, rewritten, text_record, blank}
use Rattle.paper.specs.Layout.{boxed}
use Rattle.paper.specs.Table.{rooms, rec, room, text_room}
use Rattle.paper.specs.Line.{Word}
use Rattle.paper.specs.Check.{passed, verdict}
use Rattle.paper.specs.Code.{no_write}
use Rattle.paper.specs.Block.{blocks, block, blocks_of}
use Rattle.paper.specs.Sound.{counts_true}
use Rattle.paper.specs.Walk.{State, start, file, reached, to_directory, to_last}
use Rattle.paper.specs.Store.{puts, clear}
use Rattle.paper.specs.Effect.{Plan, Planned, plan, halted, chain_of, bared, emptying, emptied, laying, rewriting, rewrite_plan}
use Rattle.laws.proofs.Tests.{not-both, and_both}
use Rattle.laws.proofs.Lists.{Every, every_append, every-imp, every-each, length-each}
use Rattle.laws.proofs.Entries.{typed-type}
use Rattle.laws.proofs.Fields.{text-record-kind, length-text, text-heading}
use Rattle.laws.proofs.Rewritten.{length-rewritten}
use Rattle.laws.proofs.Lay.{length-blank}
use Rattle.laws.proofs.Runs.{Lays}
use Rattle.laws.proofs.Blocks.{block-most}
use Rattle.demands.proofs.Sound.Clauses.{Sound}
use Rattle.demands.proofs.Request.Fair.{verdict-idle}
use Rattle.demands.proofs.Request.Steps.{end_by}
use Rattle.demands.proofs.Request.Walked.{walk-reached}
use Rattle.demands.proofs.Request.Ended.{Passed}
use Rattle.demands.proofs.SoundKept.Freed.{text-found}
use Rattle.demands.proofs.SoundKept.Kept.{Keeps}
use Rattle.demands.proofs.SoundKept.Retexted.{Mine, none, some}
use Rattle.demands.proofs.SoundKept.Emptied.{in-h, size-h, Emptied, heading, text, other, emptied-by}
use Rattle.demands.proofs.SoundKept.Refilled.{Rewrite, room_in, room-free, room-not}
use Rattle.demands.proofs.SoundKept.Told.{refilled-right}

-- ---- each store of a rewrite

-- what is laid in record i of t: the heading again; or nothing or text of it, where t has nothing or text of it
pub data Rewrites (t : List ℕ) (h i : ℕ) (r : List ℕ) : Type 0 where
  head-again : i ≡ h → (mark n : ℕ) → n ≤ 24000 → r ≡ rewritten (rec t h) mark n → Rewrites t h i r
  mine-now : Mine h (rec t i) → Mine h r → Rewrites t h i r

module _ (t : List ℕ) (h : ℕ) (body : List ℕ) (c : Sound t) (w : Rewrite t h body) where
  -- a record that is free once the file is empty, and that is free in t or text of the file
  abbrev pub Open : ℕ → Type 0
  Open i = (rec (emptied t h) i ≡ blank) × Mine h (rec t i)

  -- the old text cleared
  pub each-bared : Every (Lays (λ i r. Open i × (r ≡ blank)) (rooms t)) (bared t h)
  each-bared =
      every-each _ _ (blocks_of t h) (λ p b.
      let g = text-found 65535 t h c w.file.kind p b in
      record {
        within = g.0;
        size = length-blank;
        holds = (
          (gone (text_room t h p) g.1.kind g.1.heading (emptied-by t h c w.file (text_room t h p) g.0), some g.1.kind g.1.heading),
          refl,
        );
      })
    where
      gone : (i : ℕ) → byte (rec t i) 0 ≡ 3 → heading_of (rec t i) ≡ h → Emptied t h c w.file i → rec (emptied t h) i ≡ blank
      gone i k e (heading q z) = let x : byte (rec t h) 0 ≡ 3 = rw q at k in let y : ⊥ = omega (arith, w.file.kind) in absurd y
      gone i k e (text a b z) = z
      gone i k e (other o q z) = absurd (not-both (and_both (is_kind 3 (rec t i)) _ (eq-eqb _ _ k) (eq-eqb _ _ e)) q)

  -- the new text laid
  small : h ≤ 2048
  small = omega (arith, in-h t h c w.file, c.few)

  was-mine : (p : ℕ) → p < blocks (length body) → Mine h (rec t (room (emptied t h) p))
  was-mine p l = go (emptied-by t h c w.file (room (emptied t h) p) (room_in t h body c w p l))
    where
      go : Emptied t h c w.file (room (emptied t h) p) → Mine h (rec t (room (emptied t h) p))
      go (heading e q) = absurd (room-not t h body c w p l e)
      go (text k e q) = some k e
      go (other d e q) = none (sym q ∙ room-free t h body c w p l)

  pub each_laid : Every (Lays (λ i r. Open i × ((byte r 0 ≡ 3) × (heading_of r ≡ h))) (rooms t)) (laying (emptied t h) h body)
  unfolding laying
  each_laid =
      every-each _ _ (blocks (length body)) (λ p l.
      record {
        within = room_in t h body c w p l;
        size = length-text h p (block body p) (block-most body p);
        holds = ((room-free t h body c w p l, was-mine p l), (text-record-kind h p (block body p), text-heading h p (block body p) (omega (arith, small))));
      })

  pub each-rewrites : Every (Lays (Rewrites t h) (rooms t)) (rewriting t h body)
  unfolding rewriting emptying
  each-rewrites = (
    head 1 0 (omega arith),
    every_append _ (bared t h ++ laying (emptied t h) h body) _
        (every_append _ (bared t h) _
        (every-imp _ _ (bared t h) (λ s l. record { within = l.within; size = l.size; holds = mine-now l.holds.0.1 (none l.holds.1) }) each-bared)
        (every-imp _ _ (laying (emptied t h) h body)
        (λ s l. record { within = l.within; size = l.size; holds = mine-now l.holds.0.1 (some l.holds.1.0 l.holds.1.1) }) each_laid))
        (head 0 (length body) w.short, tt),
  )
    where
      head : (mark n : ℕ) → n ≤ 24000 → Lays (Rewrites t h) (rooms t) (puts h (rewritten (rec t h) mark n))
      head mark n b =
          record {
            within = in-h t h c w.file;
            size = length-rewritten (rec t h) mark n (size-h t h c w.file);
            holds = head-again refl mark n b refl;
          }

-- "the heading marked ..": how many there are
pub length-rewriting : (t : List ℕ) (h : ℕ) (body : List ℕ) → length (rewriting t h body) ≡ 2 + blocks_of t h + blocks (length body)
unfolding rewriting emptying laying
length-rewriting t h body =
    rw (
      length-append,
      length-append,
      length-each (λ p. clear (text_room t h p)) (blocks_of t h),
      length-each (λ p. puts (room (emptied t h) p) (text_record h p (block body p))) (blocks (length body)),
    ) (omega arith)

-- ---- the plan

-- what a granted `WRS*` has found
pub record Granted (t : List ℕ) (u : ℕ) (body : List ℕ) (name : Word) (p : Plan) : Type 0 where
  pub directory : State
  pub end : State
  pub walked : to_directory boxed t 1 (start u) (chain_of name) ≡ reached directory
  pub last : to_last boxed t directory (chain_of name) ≡ reached end
  pub write : no_write end.code ≡ false
  pub fit : Rewrite t (file t end) body
  pub stores : p.stores ≡ rewriting t (file t end) body

abbrev pub Grants : List ℕ → ℕ → List ℕ → Word → Planned → Type 0
Grants t u body name (plan p) = verdict p.checks ≡ passed → Granted t u body name p
Grants t u body name (halted f) = Unit {0}

module _ (t : List ℕ) (c : Sound t) (u : ℕ) (body : List ℕ) (name : Word) (short : length body ≤ 24000) where
  pub rewrite-grants : Grants t u body name (rewrite_plan boxed t u body name)
  unfolding rewrite_plan
  rewrite-grants =
      end_by (Grants t u body name) 2 (λ _ _ _. tt) t u name _ (λ d f q r v.
      let i = verdict-idle _ v in
      let x = walk-reached 65535 t c d (chain_of name) f r in
      let z : lifetime (rec t (file t f)) ≢ 2 = eqb-false _ _ i.1.1.1.0 in
      record {
        directory = d;
        end = f;
        walked = q;
        last = r;
        write = i.0;
        fit =
            record {
              file =
                  record {
                    kind = x.heading;
                    type = typed-type 1 (rec t (file t f)) (not-false _ i.1.0);
                    lifetime = omega (arith, x.fields.lifetime.0, x.fields.lifetime.1);
                  };
              short = short;
              room = ltb-false _ _ i.1.1.0;
            };
        stores = refl;
      })

  pub rewrite-granted : (p : Plan) → Passed (rewrite_plan boxed t u body name) p → Granted t u body name p
  rewrite-granted p v = let s : Grants t u body name (plan p) = rw v.plan at rewrite-grants in s v.checks

  pub rewrite-keeps : counts_true t ≡ true → Keeps t (rewrite_plan boxed t u body name)
  rewrite-keeps e = go (rewrite_plan boxed t u body name) rewrite-grants
    where
      go : (x : Planned) → Grants t u body name x → Keeps t x
      go (plan p) h = λ v. let g = h v in rw g.stores (refilled-right t (file t g.end) body (record { clauses = c; counts = e }) g.fit)
      go (halted f) h = tt
