-- DPR and CHN at the end of their walks, by the tests that the code makes: each is one case of its plan.
-- The record stored is the plan's, since the old one is whole where it stands and a link name is at most ten bytes.
use mathlib.Core.Bool.{true, false}
use mathlib.Core.List.{List, [], ◌∷◌}
use mathlib.Core.Path.{◌≡◌, refl, sym, ◌∙◌}
use Prim.Native.Nat.{ℕ, ◌≤◌, ◌<◌}
use lib.ListN.{length, take}
use lib.Seq.{take_all}
use Rattle.paper.specs.Scan as scan
use Rattle.paper.specs.Record.{heading_code, padded}
use Rattle.paper.specs.Layout.{boxed}
use Rattle.paper.specs.Table.{rooms, rec}
use Rattle.paper.specs.Code.{no_write, lacks}
use Rattle.paper.specs.Entry.{find}
use Rattle.paper.specs.Store.{puts}
use Rattle.paper.specs.Check.{Place, whole}
use Rattle.paper.specs.Answer.{plain}
use Rattle.paper.specs.Walk.{file}
use Rattle.std.specs.Option.{is_some}
use Rattle.paper.specs.Effect.{Planned, is_found, write_inhibited, lacking, taken, renamed, chn_at, recoded, dpr_at}
use Rattle.records.proofs.Builds.{whole-there}
use Rattle.records.specs.Shown.{holder_shown}
use Rattle.scans.specs.Shown.{found_shown}
use Rattle.effects.specs.Stage.{Made}
use Rattle.walk.specs.Shown.{meant}
use Rattle.walk.specs.declared.state.State.{State}
use Rattle.walk.specs.declared.end.Ends.{Ends}
use Rattle.answers.specs.Shown.{shown, stored}
use Rattle.elephant.specs.Done.{Did}
use Rattle.elephant.proofs.Verdicts.{first_holds, second_holds, both-pass, did-refused, did-stored}

-- ---- DPR

module _ (t : List ℕ) (place : Place) (k code : ℕ) (f : State) where
  pub dpr-shut : no_write f.code.0 ≡ true → Did t k (dpr_at t place code (meant f)) (shown (plain 14 place 0 0)) t
  dpr-shut a = did-refused t k _ _ (first_holds (write_inhibited place (meant f)) _ a)

  module _ (a : no_write f.code.0 ≡ false) (h : ℕ) (x : h ≡ file t (meant f)) where
    pub dpr-lacks : lacks code (heading_code (rec t h)) ≡ true → Did t k (dpr_at t place code (meant f)) (shown (plain 21 (whole 2) 0 0)) t
    dpr-lacks b =
        did-refused t k _ _
        (second_holds (write_inhibited place (meant f)) (lacking (whole 2) code (heading_code (rec t (file t (meant f))))) [] a (rw (← x) b))

    -- the store made
    pub dpr-laid : lacks code (heading_code (rec t h)) ≡ false → (bytes v : List ℕ) (l : ℕ) → file t (meant f) < rooms t
        → bytes ≡ recoded (padded 32 (rec t h)) code → Made t v k l (puts h bytes ∷ [])
        → Did t k (dpr_at t place code (meant f)) (shown (stored 1 k false)) v
    dpr-laid b bytes v l y z m =
        let lacks-none = lacking (whole 2) code (heading_code (rec t (file t (meant f)))) in
        did-stored t v k l _ (both-pass (write_inhibited place (meant f)) lacks-none a (rw (← x) b)) refl
        (rw (z, x, whole-there t (file t (meant f)) y) at m)

-- ---- CHN

-- an entry was found, or none
some-found : (x : scan.Found) → is_some (found_shown x) ≡ is_found x
some-found (scan.at e) = refl
some-found scan.nowhere = refl

module _ (t : List ℕ) (place : Place) (k : ℕ) (n : List ℕ) (x : Ends) where
  abbrev found : scan.Found
  found = find boxed t (holder_shown x.directory.holder) n

  abbrev end : Planned
  end = chn_at boxed t place n (meant x.directory) (meant x.file)

  pub chn-shut : no_write x.directory.code.0 ≡ true → Did t k end (shown (plain 14 place 0 0)) t
  chn-shut a = did-refused t k _ _ (first_holds (write_inhibited place (meant x.directory)) _ a)

  module _ (a : no_write x.directory.code.0 ≡ false) where
    pub chn-taken : is_some (found_shown found) ≡ true → Did t k end (shown (plain 16 (whole 2) 0 0)) t
    chn-taken z =
        did-refused t k _ _ (second_holds (write_inhibited place (meant x.directory)) (taken (whole 2) found) [] a (sym (some-found found) ∙ z))

    -- the store made
    pub chn-laid : is_some (found_shown found) ≡ false → (bytes v : List ℕ) (l : ℕ) → x.file.entry.0 < rooms t
        → length n ≤ 10 → bytes ≡ renamed boxed (padded 32 (rec t x.file.entry.0)) (take 10 n) → Made t v k l (puts x.file.entry.0 bytes ∷ [])
        → Did t k end (shown (stored 1 k false)) v
    chn-laid z bytes v l y o e m =
        did-stored t v k l _ (both-pass (write_inhibited place (meant x.directory)) (taken (whole 2) found) a (sym (some-found found) ∙ z)) refl
        (rw (e, whole-there t x.file.entry.0 y, take_all 10 n o) at m)
