-- The checks of a new entry before 17, in number order: one that holds refuses, and one that does not changes nothing of how the
-- plan ends. And the number of the first free record, where a new file's heading goes.
use mathlib.Core.Bool.{Bool, true, false, cond}
use mathlib.Core.List.{List, [], ◌∷◌}
use mathlib.Core.Path.{◌≡◌, refl, sym, ap, ◌∙◌}
use Prim.Native.Nat.{ℕ, ◌%◌, ◌<◌}
use native.Mathlib.Omega.{arith}
use lib.Dec.{leb}
use lib.ListN.{get_or, length}
use Rattle.paper.specs.Layout.{boxed}
use Rattle.paper.specs.Table.{room}
use Rattle.paper.specs.Check.{Check, Verdict, passed, verdict, refused}
use Rattle.paper.specs.Store.{Store}
use Rattle.paper.specs.Code.{no_write}
use Rattle.paper.specs.Answer.{Outcome, plain, single, stores, done, cut}
use Rattle.paper.specs.Request.{Begin, own}
use Rattle.paper.specs.Effect.{Plan, Planned, plan, Making, making, link_taken, borne, displacing, full_up, still_peopled, no_room}
use Rattle.laws.proofs.Lists.{length-each}
use Rattle.effects.specs.Listed.{free_rooms}
use Rattle.effects.proofs.Places.{front-here}
use Rattle.answers.specs.Shown.{told, verdict_shown, shown}
use Rattle.answers.specs.declared.Answer.{Answer}
use Rattle.elephant.specs.Done.{did, Did}
use Rattle.std.specs.Prelude.{Result}
use Rattle.answers.specs.declared.Refusal.{Refusal}
use Rattle.elephant.specs.Filing.{late_checks, ending}
use Rattle.elephant.proofs.Verdicts.{first_holds, first_passes, alike-after, second_holds, did-refused}
use Rattle.elephant.proofs.Ending.{late-alike}

-- two plans that end alike
did-same : (t u : List ℕ) (k : ℕ) (p q : Planned) (r : Answer) → did t k p ≡ did t k q → Did t k q r u → Did t k p r u
did-same t u k p q r e w =
    record {
      answer = w.answer ∙ sym (ap (λ (o : Outcome). shown o.answer) e);
      table = w.table ∙ sym (ap (λ (o : Outcome). o.table) e);
    }

-- checks with one verdict
module _ (t : List ℕ) (k : ℕ) (ss : List Store) (b : Bool) where
  abbrev with : List Check → Plan
  with cs = record { checks = cs; stores = ss; displaced = b; reply = [] }

  did-alike : (cs ds : List Check) → verdict cs ≡ verdict ds → did t k (plan (with cs)) ≡ did t k (plan (with ds))
  did-alike cs ds e = ap (λ (v : Verdict). single t [] k (stores k (with cs) v)) e ∙ go (verdict ds)
    where
      by : (x : Bool) → single t [] k (cond x (done (with cs)) (cut (with cs))) ≡ single t [] k (cond x (done (with ds)) (cut (with ds)))
      by true = refl
      by false = refl

      go : (v : Verdict) → single t [] k (stores k (with cs) v) ≡ single t [] k (stores k (with ds) v)
      go (refused f) = refl
      go passed = by (leb (length ss) k)

-- ---- 14

module _ (t : List ℕ) (k : ℕ) (m : Making) where
  pub shut-refused : (cs : List Check) → no_write m.directory.code ≡ true → Did t k (making boxed t m [] cs []) (shown (plain 14 m.place 0 0)) t
  unfolding making
  shut-refused cs e = did-refused t k _ _ (first_holds _ _ e)

  pub open-ends : (to : Begin) (r : Answer) (u : List ℕ) → no_write m.directory.code ≡ false → Did t k (ending t to m []) r u
      → Did t k (making boxed t m [] (link_taken boxed t to m) []) r u
  unfolding making ending
  open-ends to r u e w =
      did-same t u k (making boxed t m [] (link_taken boxed t to m) []) (ending t to m []) r (did-alike t k _ _ _ _ (first_passes _ _ e)) w

  -- the checks after 19, as what they refuse
  pub late-ends : (to : Begin) (late : List Check) (f : Result (Unit {0}) Refusal) → told f ≡ verdict_shown (verdict late) → (r : Answer) (u : List ℕ)
      → Did t k (ending t to m (late_checks f)) r u → Did t k (ending t to m late) r u
  unfolding ending
  late-ends to late f e r u w =
      let three : List Check = full_up boxed t m ∷ still_peopled m.place (displacing t (borne boxed t m) m.entry) ∷ no_room boxed t m ∷ [] in
      did-same t u k (ending t to m late) (ending t to m (late_checks f)) r
      (did-alike t k _ _ _ _
      (alike-after (link_taken boxed t to m) _ _ (alike-after three late (late_checks f) (sym (late-alike late f e))))) w

-- 13, 14 and 15 of CPY, in that order, with others after all
module _ (t : List ℕ) (k : ℕ) (m : Making) (c e : Check) (last : List Check) where
  pub copy-first : c.when ≡ true → Did t k (making boxed t m (c ∷ []) (e ∷ []) last) (shown (plain c.refusal.number c.refusal.place 0 0)) t
  unfolding making
  copy-first x = did-refused t k _ _ (first_holds _ _ x)

  pub copy-second : c.when ≡ false → no_write m.directory.code ≡ true
      → Did t k (making boxed t m (c ∷ []) (e ∷ []) last) (shown (plain 14 m.place 0 0)) t
  unfolding making
  copy-second x y = did-refused t k _ _ (second_holds _ _ _ x y)

  pub copy-third : c.when ≡ false → no_write m.directory.code ≡ false → e.when ≡ true
      → Did t k (making boxed t m (c ∷ []) (e ∷ []) last) (shown (plain e.refusal.number e.refusal.place 0 0)) t
  unfolding making
  copy-third x y z = did-refused t k _ _ (first_passes _ _ x ∙ first_passes _ _ y ∙ first_holds _ _ z)

  pub copy-ends : (r : Answer) (u : List ℕ) → c.when ≡ false → no_write m.directory.code ≡ false → e.when ≡ false
      → Did t k (ending t own m last) r u
      → Did t k (making boxed t m (c ∷ []) (e ∷ []) last) r u
  unfolding making ending
  copy-ends r u x y z w =
      did-same t u k (making boxed t m (c ∷ []) (e ∷ []) last) (ending t own m last) r
      (did-alike t k _ _ _ _ (first_passes _ _ x ∙ first_passes _ _ y ∙ first_passes _ _ z)) w

-- ---- a new file

-- the first free record's number is small
pub free-small : (t : List ℕ) (k : ℕ) → 0 < k → get_or (free_rooms t k) 0 0 < 65536
free-small t k l = rw (front-here (λ m. room t m % 65536) 0 1002 k 0 l (omega arith)) (omega arith)

pub free-length : (t : List ℕ) (k : ℕ) → 1002 ≡ length (free_rooms t k)
free-length t k = sym (length-each _ 1002)
