-- Each function on a request that was admitted: what it stands on follows from what was read, and its promise is the request's.
-- One law of each kind for a function, so that the choice of the function only cites them.
use mathlib.Core.Bool.{true, false}
use mathlib.Core.List.{List, [], ◌∷◌}
use mathlib.Core.Logic.{◌⊎◌, inl, inr}
use mathlib.Core.Path.{◌≡◌, refl, sym, ap, ◌∙◌, subst}
use Prim.Native.Nat.{ℕ, ◌≤◌}
use native.Mathlib.Omega.{arith}
use lib.ListN.{length, drop}
use Rattle.paper.specs.Layout.{boxed}
use Rattle.paper.specs.Line.{Word, words, word}
use Rattle.paper.specs.Name.{dot_g, pointed, chain}
use Rattle.paper.specs.Request.{request, asked}
use Rattle.paper.specs.Effect.{Planned, crd_plan, wrs_plan, rds_plan, cpy_plan, dup_plan, chn_plan, dpr_plan, lst_plan, lst_base_plan, lst_tree_plan, lst_base_tree_plan, rewrite_plan, chain_of, list_of, begun}
use Rattle.paper.specs.Walk.{last_name}
use Rattle.paper.specs.Answer.{Outcome, granted, requested, ran, single, deleting}
use Rattle.laws.proofs.Tests.{truth}
use Rattle.words.specs.Place.{joined, names_from, word_at}
use Rattle.words.specs.Shown.{begin_meant}
use Rattle.records.specs.Part.{meant_part}
use Rattle.words.specs.declared.begin.Begin.{Begin}
use Rattle.words.specs.declared.begin.Begin.TheVariants.{Own, Take, Give}
use Rattle.std.specs.Prelude.{Option, Ok}
use Rattle.reader.specs.declared.request.Request.{Request}
use Rattle.reader.specs.declared.request.Request.TheVariants.{Crd, Wrs, Rds, Cpy, Dup, Chn, Dpr, Lst, LstBase, LstTree, LstBaseTree, Rewrite}
use Rattle.demands.proofs.Request.Read.{Told}
use Rattle.demands.proofs.Request.Begun.{Gives}
use Rattle.demands.proofs.Request.Formed as formed
use Rattle.demands.proofs.Request.Formed.{named-last}
use Rattle.walk.specs.Shown.{chain_at}
use Rattle.walk.proofs.Chains.{rest-one, last-instead}
use Rattle.elephant.specs.Done.{Did, Wrote}
use Rattle.elephant.specs.Filing.{Named, Linked}
use Rattle.elephant.specs.Removed.{removal_plan, CameAll}
use Rattle.elephant.specs.declared.removal.Removal.{Removal}
use Rattle.elephant.specs.declared.removal.Removal.TheVariants.{Delete, Destroy}
use Rattle.elephant.specs.Reading.{reading}
use Rattle.elephant.specs.declared.reply.Sheet.TheVariants.{Text, Lines, Deep}
use Rattle.elephant.specs.Meant.{request_meant, removal_asked}
use Rattle.elephant.specs.Admitted.{Admitted}
use Rattle.answers.specs.Promised.{Promised}
use Rattle.answers.specs.declared.Answer.{Answer}
use Rattle.elephant.proofs.Grants.{Silent, Storeless, crd-silent, wrs-silent, cpy-silent, dup-silent, chn-silent, dpr-silent, rewrite-silent, rds-storeless, lst-storeless, lst-base-storeless, lst-tree-storeless, lst-base-tree-storeless}
use Rattle.elephant.proofs.Promises.{promised-storing, promised-writing, promised-names}
use Rattle.elephant.proofs.Asking.{read-granted}
use Rattle.elephant.proofs.Places.{read_short}
use Rattle.elephant.proofs.Requests.{requested-granted, asked-granted, names-read, told, link-short, names-first}

-- a give has one link, the last name that is written
give-last : (line : List ℕ) (to : Begin) (p : ℕ) → Gives (begin_meant to) (begun (begin_meant to) (word_at line p))
    → last_name (chain_at line p to) ≡ last_name (chain_of (word_at line p))
unfolding chain pointed
give-last line Own p g = refl
give-last line (Take n) p g = absurd g
give-last line (Give n) p g = go (truth (joined line p))
  where
    go : (joined line p ≡ true) ⊎ (joined line p ≡ false) → last_name (dot_g ∷ drop 1 (names_from line p)) ≡ last_name (chain (names_from line p))
    go (inl j) = last-instead line p dot_g j
    go (inr j) = let z : ⊥ = omega (arith, g.1, ap length (rest-one line p j)) in absurd z

module _ {t line text : List ℕ} {u : ℕ} {r : Request} (a : Admitted t line text u r) where
  -- what was asked, what that tells, and what it comes to
  asks : (q : Request) → r ≡ q → asked line text ≡ request (request_meant line q)
  asks q e =
      asked-granted t line text [] u 0 a.passed r a.read a.short ∙ ap (λ (x : Request). request (request_meant line x)) e

  hears : (q : Request) → r ≡ q → Told text (request_meant line q)
  hears q e = told line text (request_meant line q) (asks q e)

  comes : (q : Request) → r ≡ q → (reply : List ℕ) (k : ℕ)
      → requested boxed t line text reply u k ≡ granted boxed t text reply u k (request_meant line q)
  comes q e reply k =
      requested-granted t line text reply u k a.passed r a.read a.short
      ∙ ap (λ (x : Request). granted boxed t text reply u k (request_meant line x)) e

  -- ---- what each stands on

  -- a line that was read is no longer than it may be
  pub line-short : length line ≤ 256
  line-short = read_short line (request_meant line r) (read-granted line r a.read)

  new-named : (p : ℕ) (s : List ℕ) → formed.Named (word_at line p) → length s ≤ 24000 → Named t line p s
  new-named p s n l = record { size = a.fit.sized; sound = a.fit.sound; short = (named-last (word_at line p) n).short; few = l; brief = line-short }

  pub crd-ready : (p : ℕ) (l d : Option ℕ) → r ≡ Crd p l d → Named t line p []
  crd-ready p l d e = new-named p [] (hears (Crd p l d) e).name (omega arith)

  pub wrs-ready : (f : ℕ) (l d : Option ℕ) (p : ℕ) → r ≡ Wrs f l d p → Named t line p text
  wrs-ready f l d p e = new-named p text (hears (Wrs f l d p) e).name (hears (Wrs f l d p) e).text

  pub cpy-ready : (b : Begin) (o n : ℕ) (f l d : Option ℕ) → r ≡ Cpy b o n f l d → Named t line n []
  cpy-ready b o n f l d e = new-named n [] (hears (Cpy b o n f l d) e).new (omega arith)

  pub dup-ready : (b : Begin) (o : ℕ) (to : Begin) (n : ℕ) (d : Option ℕ) → r ≡ Dup b o to n d → Linked t line (record { at = n; begin = to })
  dup-ready b o to n d e =
      let h = hears (Dup b o to n d) e in
      let q = give-last line to n h.gives in
      record {
        named =
            record {
              size = a.fit.sized;
              sound = a.fit.sound;
              short = rw (← q) (named-last (begun (begin_meant to) (word_at line n)) h.new).short;
              few = omega arith;
              brief = line-short;
            };
        last = q;
      }

  pub chn-ready : (o l : ℕ) → r ≡ Chn o l → length (last_name (names_from line l)) ≤ 10
  chn-ready o l e = link-short line text (word_at line o) (word_at line l) (asks (Chn o l) e)

  pub remove-ready : (x : Removal) (p n : ℕ) → r ≡ removal_asked x p n
      → (p ≡ (word line 1).start) × (n ≡ length (drop 1 (words line))) × (n ≤ 8)
  remove-ready x p n e =
      let d = names-read x line p n (sym (ap Ok e) ∙ a.read) in
      let w = names-first x line text p n (asks (removal_asked x p n) e) in
      (d.0 ∙ w.0, d.1, rw d.1 w.1)

  pub rewrite-ready : (p : ℕ) → r ≡ Rewrite p → length text ≤ 24000
  rewrite-ready p e = (hears (Rewrite p) e).text

  -- ---- what each comes to

  -- whose base list a chain starts in, and its word there
  abbrev list : Begin → ℕ
  list b = list_of u (begin_meant b)

  abbrev from : Begin → ℕ → Word
  from b p = begun (begin_meant b) (word_at line p)

  module _ (reply : List ℕ) (k : ℕ) (z : Answer) (v : List ℕ) where
    -- a plan that stores
    storing-done : (q : Request) → r ≡ q → (x : Planned) → granted boxed t text reply u k (request_meant line q) ≡ single t reply k (ran k x)
        → Silent x
        → Did t k x z v → Promised (requested boxed t line text reply u k) z v reply
    storing-done q e x g s h = subst (λ (o : Outcome). Promised o z v reply) (sym (comes q e reply k ∙ g)) (promised-storing t reply k x z v s h)

    -- one that writes
    writing-done : (q : Request) → r ≡ q → (x : Planned) → granted boxed t text reply u k (request_meant line q) ≡ single t reply k (ran k x)
        → Storeless x → Wrote t reply x z v → Promised (requested boxed t line text reply u k) z t v
    writing-done q e x g s h = subst (λ (o : Outcome). Promised o z t v) (sym (comes q e reply k ∙ g)) (promised-writing t reply k x z v s h)

    pub crd-done : (p : ℕ) (l d : Option ℕ) → r ≡ Crd p l d → Did t k (crd_plan boxed t u (word_at line p) (meant_part l) (meant_part d)) z v
        → Promised (requested boxed t line text reply u k) z v reply
    unfolding granted
    crd-done p l d e h =
        let x : Planned = crd_plan boxed t u (word_at line p) (meant_part l) (meant_part d) in
        storing-done (Crd p l d) e x refl (crd-silent t u (word_at line p) (meant_part l) (meant_part d)) h

    pub wrs-done : (f : ℕ) (l d : Option ℕ) (p : ℕ) → r ≡ Wrs f l d p
        → Did t k (wrs_plan boxed t u text f (meant_part l) (meant_part d) (word_at line p)) z v
        → Promised (requested boxed t line text reply u k) z v reply
    unfolding granted
    wrs-done f l d p e h =
        let x : Planned = wrs_plan boxed t u text f (meant_part l) (meant_part d) (word_at line p) in
        storing-done (Wrs f l d p) e x refl (wrs-silent t u text f (meant_part l) (meant_part d) (word_at line p)) h

    pub cpy-done : (b : Begin) (o n : ℕ) (f l d : Option ℕ) → r ≡ Cpy b o n f l d
        → Did t k (cpy_plan boxed t (list b) u (from b o) (word_at line n) (meant_part f) (meant_part l) (meant_part d)) z v
        → Promised (requested boxed t line text reply u k) z v reply
    unfolding granted
    cpy-done b o n f l d e h =
        let x : Planned = cpy_plan boxed t (list b) u (from b o) (word_at line n) (meant_part f) (meant_part l) (meant_part d) in
        storing-done (Cpy b o n f l d) e x refl (cpy-silent t (list b) u (from b o) (word_at line n) (meant_part f) (meant_part l) (meant_part d)) h

    pub dup-done : (b : Begin) (o : ℕ) (to : Begin) (n : ℕ) (d : Option ℕ) → r ≡ Dup b o to n d
        → Did t k (dup_plan boxed t (list b) (list to) (begin_meant to) (from b o) (from to n) (meant_part d)) z v
        → Promised (requested boxed t line text reply u k) z v reply
    unfolding granted
    dup-done b o to n d e h =
        let x : Planned = dup_plan boxed t (list b) (list to) (begin_meant to) (from b o) (from to n) (meant_part d) in
        storing-done (Dup b o to n d) e x refl (dup-silent t (list b) (list to) (begin_meant to) (from b o) (from to n) (meant_part d)) h

    pub chn-done : (o l : ℕ) → r ≡ Chn o l → Did t k (chn_plan boxed t u (word_at line o) (word_at line l)) z v
        → Promised (requested boxed t line text reply u k) z v reply
    unfolding granted
    chn-done o l e h =
        storing-done (Chn o l) e (chn_plan boxed t u (word_at line o) (word_at line l)) refl (chn-silent t u (word_at line o) (word_at line l)) h

    pub dpr-done : (p c : ℕ) → r ≡ Dpr p c → Did t k (dpr_plan boxed t u (word_at line p) c) z v
        → Promised (requested boxed t line text reply u k) z v reply
    unfolding granted
    dpr-done p c e h = storing-done (Dpr p c) e (dpr_plan boxed t u (word_at line p) c) refl (dpr-silent t u (word_at line p) c) h

    pub rewrite-done : (p : ℕ) → r ≡ Rewrite p → Did t k (rewrite_plan boxed t u text (word_at line p)) z v
        → Promised (requested boxed t line text reply u k) z v reply
    unfolding granted
    rewrite-done p e h = storing-done (Rewrite p) e (rewrite_plan boxed t u text (word_at line p)) refl (rewrite-silent t u text (word_at line p)) h

    pub remove-done : (x : Removal) (p n : ℕ) → r ≡ removal_asked x p n → CameAll x t u k (drop 1 (words line)) z v
        → Promised (requested boxed t line text reply u k) z v reply
    remove-done x p n e h =
        subst (λ (o : Outcome). Promised o z v reply) (sym (comes (removal_asked x p n) e reply k ∙ by x))
        (promised-names (removal_plan x) t u reply k (drop 1 (words line)) z v h.answer h.table)
      where
        by : (x : Removal) → granted boxed t text reply u k (request_meant line (removal_asked x p n))
            ≡ deleting (removal_plan x) t u reply k 0 0 (drop 1 (words line))
        by Delete = unfold granted in refl
        by Destroy = unfold granted in refl

    pub rds-done : (b : Begin) (p : ℕ) (f n : Option ℕ) → r ≡ Rds b p f n → Wrote t reply (reading (Text f n) t (list b) reply (from b p)) z v
        → Promised (requested boxed t line text reply u k) z t v
    unfolding granted rds_plan
    rds-done b p f n e h =
        let x : Planned = rds_plan boxed t (list b) reply (from b p) (meant_part f) (meant_part n) in
        writing-done (Rds b p f n) e x refl (rds-storeless t (list b) reply (from b p) (meant_part f) (meant_part n)) h

    pub lst-done : (b : Begin) (p : ℕ) → r ≡ Lst b p → Wrote t reply (reading Lines t (list b) reply (from b p)) z v
        → Promised (requested boxed t line text reply u k) z t v
    unfolding granted lst_plan
    lst-done b p e h = writing-done (Lst b p) e (lst_plan boxed t (list b) reply (from b p)) refl (lst-storeless t (list b) reply (from b p)) h

    pub lst-base-done : r ≡ LstBase → Wrote t reply (lst_base_plan boxed t u reply) z v → Promised (requested boxed t line text reply u k) z t v
    unfolding granted
    lst-base-done e h = writing-done LstBase e (lst_base_plan boxed t u reply) refl (lst-base-storeless t u reply) h

    pub lst-tree-done : (b : Begin) (p d : ℕ) → r ≡ LstTree b p d → Wrote t reply (reading (Deep d) t (list b) reply (from b p)) z v
        → Promised (requested boxed t line text reply u k) z t v
    unfolding granted lst_tree_plan
    lst-tree-done b p d e h =
        writing-done (LstTree b p d) e (lst_tree_plan boxed t (list b) reply (from b p) d) refl (lst-tree-storeless t (list b) reply (from b p) d) h

    pub lst-base-tree-done : (d : ℕ) → r ≡ LstBaseTree d → Wrote t reply (lst_base_tree_plan boxed t u reply d) z v
        → Promised (requested boxed t line text reply u k) z t v
    unfolding granted
    lst-base-tree-done d e h = writing-done (LstBaseTree d) e (lst_base_tree_plan boxed t u reply d) refl (lst-base-tree-storeless t u reply d) h
