-- How a plan ends, by the tests that the code makes: the first check that holds refuses, and where none does the stores decide.
-- With no reply the answer is `stored`, and the table after is the first k stores, all of them where they are no more than k.
use mathlib.Core.Bool.{Bool, true, false, cond}
use mathlib.Core.List.{List, [], ◌∷◌, ◌++◌}
use mathlib.Core.Path.{◌≡◌, refl, sym, ap, ◌∙◌}
use Prim.Native.Nat.{ℕ, ◌≤◌, ◌<◌}
use lib.Dec.{leb}
use lib.ListN.{length, take, drop}
use lib.Seq.{take_all}
use borrow.Author.Tests.{leb-true, lt-ltb, le-ltb}
use Rattle.laws.proofs.Tests.{clash}
use Rattle.paper.specs.Check.{whole, Refusal, Check, Verdict, passed, refused, verdict}
use Rattle.paper.specs.Store.{run}
use Rattle.paper.specs.Effect.{Plan, plan, too_short, showing}
use Rattle.paper.specs.Answer.{Outcome, plain, granting, stores, done, cut, ran, single, refusing}
use Rattle.effects.specs.Stage.{Made}
use Rattle.answers.specs.Shown.{verdict_shown, shown, stored}
use Rattle.answers.specs.declared.Answer.{Answer}
use Rattle.elephant.specs.Done.{Tried, Did, Wrote}
use Rattle.elephant.specs.Removed.{ended_at, ended_meant, removed_by, Spent, Came}
use Rattle.elephant.specs.declared.removal.Ended.{Ended}
use Rattle.std.specs.Prelude.{Result, Ok, Err}

-- ---- checks

-- what a result says of a verdict
pub passed-by : (v : Verdict) (u : Unit {0}) → Ok u ≡ verdict_shown v → v ≡ passed
passed-by passed u e = refl
passed-by (refused f) u e = clash (cc)

pub refused-by : (v : Verdict) (g : Refusal) → Err g ≡ verdict_shown v → v ≡ refused g
refused-by passed g e = clash (cc)
refused-by (refused f) g e = let z : g ≡ f = cc in ap refused (sym z)

pub first_holds : (c : Check) (cs : List Check) → c.when ≡ true → verdict (c ∷ cs) ≡ refused c.refusal
unfolding verdict
first_holds c cs e = rw e

pub first_passes : (c : Check) (cs : List Check) → c.when ≡ false → verdict (c ∷ cs) ≡ verdict cs
unfolding verdict
first_passes c cs e = rw e

pub none_left : verdict [] ≡ passed
unfolding verdict
none_left = refl

-- checks after those that decide, and after those that do not
pub front-refuses : (cs ds : List Check) (f : Refusal) → verdict cs ≡ refused f → verdict (cs ++ ds) ≡ refused f
unfolding verdict
front-refuses [] ds f e = clash (cc)
front-refuses (c ∷ cs) ds f e = go c.when e (front-refuses cs ds f)
  where
    go : (b : Bool) → cond b (refused c.refusal) (verdict cs) ≡ refused f → (verdict cs ≡ refused f → verdict (cs ++ ds) ≡ refused f)
        → cond b (refused c.refusal) (verdict (cs ++ ds)) ≡ refused f
    go true e r = e
    go false e r = r e

pub front-passes : (cs ds : List Check) → verdict cs ≡ passed → verdict (cs ++ ds) ≡ verdict ds
unfolding verdict
front-passes [] ds e = refl
front-passes (c ∷ cs) ds e = go c.when e (front-passes cs ds)
  where
    go : (b : Bool) → cond b (refused c.refusal) (verdict cs) ≡ passed → (verdict cs ≡ passed → verdict (cs ++ ds) ≡ verdict ds)
        → cond b (refused c.refusal) (verdict (cs ++ ds)) ≡ verdict ds
    go true e r = clash (cc)
    go false e r = r e

-- other checks after the same, that decide alike
pub alike-after : (cs ds es : List Check) → verdict ds ≡ verdict es → verdict (cs ++ ds) ≡ verdict (cs ++ es)
unfolding verdict
alike-after [] ds es e = e
alike-after (c ∷ cs) ds es e = ap (cond c.when (refused c.refusal)) (alike-after cs ds es e)

pub second_holds : (c d : Check) (cs : List Check) → c.when ≡ false → d.when ≡ true → verdict (c ∷ d ∷ cs) ≡ refused d.refusal
second_holds c d cs e f = first_passes c (d ∷ cs) e ∙ first_holds d cs f

pub both-pass : (c d : Check) → c.when ≡ false → d.when ≡ false → verdict (c ∷ d ∷ []) ≡ passed
both-pass c d e f = first_passes c (d ∷ []) e ∙ first_passes d [] f ∙ none_left

-- ---- plans

module _ (t reply : List ℕ) (k : ℕ) (p : Plan) where
  -- a check refuses
  single-refused : (f : Refusal) → verdict p.checks ≡ refused f → single t reply k (ran k (plan p)) ≡ refusing t reply f
  single-refused f e = rw e

  -- all pass: the first k stores are made
  single-table : verdict p.checks ≡ passed → (single t reply k (ran k (plan p))).table ≡ run t (take k p.stores)
  single-table e = rw e (go (leb (length p.stores) k) refl)
    where
      go : (b : Bool) → leb (length p.stores) k ≡ b → (single t reply k (cond b (done p) (cut p))).table ≡ run t (take k p.stores)
      go true x = rw (take_all k p.stores (leb-true _ _ x))
      go false x = refl

  single-answer : verdict p.checks ≡ passed → p.reply ≡ []
      → (single t reply k (ran k (plan p))).answer ≡ stored (length p.stores) k p.displaced
  single-answer e q = rw e (go (leb (length p.stores) k))
    where
      go : (b : Bool) → (single t reply k (cond b (done p) (cut p))).answer
          ≡ cond b (granting p.displaced 0 (length p.stores)) (plain 22 (whole 0) 0 k)
      go true = rw q
      go false = refl

-- ---- plans without a reply

pub did-refused : (t : List ℕ) (k : ℕ) (p : Plan) (g : Refusal) → verdict p.checks ≡ refused g
    → Did t k (plan p) (shown (plain g.number g.place 0 0)) t
did-refused t k p g e =
    let w = single-refused t [] k p g e in
    record { answer = sym (ap (λ (o : Outcome). shown o.answer) w); table = sym (ap (λ (o : Outcome). o.table) w) }

pub did-tried : (t u : List ℕ) (k n : ℕ) (p : Plan) → verdict p.checks ≡ passed → p.reply ≡ [] → Tried t k p.stores n u
    → Did t k (plan p) (shown (stored n k p.displaced)) u
did-tried t u k n p e q w =
    rw w.number (record { answer = sym (ap shown (single-answer t [] k p e q)); table = w.table ∙ sym (single-table t [] k p e) })

pub did-stored : (t u : List ℕ) (k l : ℕ) (p : Plan) → verdict p.checks ≡ passed → p.reply ≡ [] → Made t u k l p.stores
    → Did t k (plan p) (shown (stored (length p.stores) k p.displaced)) u
did-stored t u k l p e q w = did-tried t u k (length p.stores) p e q (record { number = refl; table = w.table })

-- ---- one name of a DEL or of a DST

pub came_refused : (t : List ℕ) (k : ℕ) (p : Plan) (g : Refusal) (a : Ended) → ended_meant a ≡ ended_at k g → verdict p.checks ≡ refused g
    → Came t k (plan p) (Err a) t
came_refused t k p g a q e =
    record {
      answer = ap Err q ∙ sym (ap (removed_by k (length p.stores)) e);
      table = sym (ap (λ (o : Outcome). o.table) (single-refused t [] k p g e));
    }

pub came-passed : (t v : List ℕ) (k : ℕ) (p : Plan) (r : Result ℕ Ended) → verdict p.checks ≡ passed → Spent t k p.stores r v
    → Came t k (plan p) r v
came-passed t v k p r e w =
    record { answer = w.answer ∙ sym (ap (removed_by k (length p.stores)) e); table = w.table ∙ sym (single-table t [] k p e) }

-- ---- what is written

module _ (t reply : List ℕ) where
  pub wrote-refused : (p : Plan) (g : Refusal) → verdict p.checks ≡ refused g
      → Wrote t reply (plan p) (shown (plain g.number g.place 0 0)) reply
  wrote-refused p g e =
      let w = single-refused t reply 0 p g e in
      record { answer = sym (ap (λ (o : Outcome). shown o.answer) w); reply = sym (ap (λ (o : Outcome). o.reply) w) }

  -- with the checks after 20
  module _ (out : List ℕ) (late : List Check) where
    -- it does not fit
    pub wrote-short : length reply < length out → Wrote t reply (showing [] out reply late) (shown (plain 20 (whole 0) 0 0)) reply
    wrote-short l = wrote-refused _ _ (first_holds (too_short out reply) late (lt-ltb _ _ l))

    -- it fits, and a check after 20 holds
    pub wrote-late : (g : Refusal) → length out ≤ length reply → verdict late ≡ refused g
        → Wrote t reply (showing [] out reply late) (shown (plain g.number g.place 0 0)) reply
    wrote-late g l e = wrote-refused _ g (first_passes (too_short out reply) late (le-ltb _ _ l) ∙ e)

    -- it fits, and the rest is as it was
    pub wrote-out : (w : List ℕ) → length out ≤ length reply → verdict late ≡ passed → w ≡ out ++ drop (length out) reply
        → Wrote t reply (showing [] out reply late) (shown (granting false (length out) 0)) w
    wrote-out w l v e =
        let fits : verdict (too_short out reply ∷ late) ≡ passed = first_passes (too_short out reply) late (le-ltb _ _ l) ∙ v in
        record { answer = rw fits; reply = e ∙ rw fits }

    abbrev with : List Check → Plan
    with cs = record { checks = cs; stores = []; displaced = false; reply = out }

    alike : (cs ds : List Check) (v : Verdict) → single t reply 0 (stores 0 (with cs) v) ≡ single t reply 0 (stores 0 (with ds) v)
    alike cs ds passed = refl
    alike cs ds (refused f) = refl

    -- two checks before it that do not hold
    module _ (c d : Check) (e : c.when ≡ false) (f : d.when ≡ false) where
      same : single t reply 0 (ran 0 (showing (c ∷ d ∷ []) out reply late)) ≡ single t reply 0 (ran 0 (showing [] out reply late))
      same =
          let short : List Check = too_short out reply ∷ late in
          ap (λ (v : Verdict). single t reply 0 (stores 0 (with (c ∷ d ∷ short)) v)) (first_passes c (d ∷ short) e ∙ first_passes d short f)
          ∙ alike (c ∷ d ∷ short) short (verdict short)

      pub wrote_after : (r : Answer) (w : List ℕ) → Wrote t reply (showing [] out reply late) r w
          → Wrote t reply (showing (c ∷ d ∷ []) out reply late) r w
      wrote_after r w h =
          record {
            answer = h.answer ∙ sym (ap (λ (o : Outcome). shown o.answer) same);
            reply = h.reply ∙ sym (ap (λ (o : Outcome). o.reply) same);
          }
