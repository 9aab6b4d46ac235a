-- Checks are tried in order, so a first part of them that refuses decides, and one that passes leaves the rest. Every reader of
-- a function goes by these two laws, `now` where `?` returns and `next` where it goes on; the checks of several words go word by word.
use mathlib.Core.Bool.{Bool, true, false, cond}
use mathlib.Core.List.{List, [], ◌∷◌, ◌++◌}
use mathlib.Core.Path.{◌≡◌, refl, sym, ap, subst, ◌∙◌}
use Rattle.std.specs.Prelude.{Some, None, Result, Ok, Err}
use Prim.Native.Nat.{ℕ, suc, ◌+◌, ◌-◌, ◌≤◌, ◌<◌}
use native.Mathlib.Omega.{arith}
use native.Mathlib.Numerals.{add-one}
use lib.ListN.{length, drop_of_length-le}
use lib.Seq.{drop-cons, take-nil}
use Rattle.paper.specs.Line.{Word, words, word}
use Rattle.paper.specs.Declaration.{Part, given, not_given, Parts, Declared, parts_of, fits}
use Rattle.paper.specs.Check as paper
use Rattle.paper.specs.Check.{whole, refusal_at, Check, passed, refused, verdict}
use Rattle.paper.specs.Request as asked
use Rattle.paper.specs.Request.{after, needed, read_as, unfit, miscounted, malformed, illegal, unlinked, misbased, declared_at, parts_at, each, between}
use Rattle.words.specs.Place.{word_at}
use Rattle.laws.proofs.Tests.{clash}
use Rattle.words.proofs.Words.{word-here}
use Rattle.declarations.specs.Given.{shown_parts, shown_declared, taken}
use Rattle.reader.specs.Asked.{refusal_meant, told, old_checks, both_checks, shown_verdict, shown_request, shown_read}
use Rattle.answers.specs.declared.number.Number.TheVariants.{UnfitDeclaration}
use Rattle.reader.specs.declared.request.Fault.{Fault}
use Rattle.reader.specs.declared.request.Refusal.{Refusal}
use Rattle.reader.specs.declared.request.Request.{Request}
use Rattle.std.specs.Result.{IsErrAnd}
use Rattle.std.specs.Option.{ok_or}
use Rattle.records.specs.Part.{shown_part}
use Rattle.std.proofs.lemmas.Result.{err_from_is_err_and}
use Rattle.declarations.specs.declared.declaration.Parts as rust
use Rattle.declarations.proofs.Parts.{fits_not, fits-taken}

-- a check alone
pub check-holds : (c : Check) → c.when ≡ true → Err c.refusal ≡ shown_verdict (verdict (c ∷ []))
unfolding verdict
check-holds c e = rw e

pub check-passes : (c : Check) → c.when ≡ false → Ok tt ≡ shown_verdict (verdict (c ∷ []))
unfolding verdict
check-passes c e = rw e

-- a first part of the checks: one that refuses decides, and one that passes leaves the rest
module _ (e : paper.Refusal) (ds : List Check) where
  pub first-refused : (cs : List Check) → Err e ≡ shown_verdict (verdict cs) → Err e ≡ shown_verdict (verdict (cs ++ ds))
  unfolding verdict
  first-refused [] h = clash (cc)
  first-refused (c ∷ cs) h = go c.when (first-refused cs) h
    where
      go : (b : Bool) → (Err e ≡ shown_verdict (verdict cs) → Err e ≡ shown_verdict (verdict (cs ++ ds)))
          → Err e ≡ shown_verdict (cond b (refused c.refusal) (verdict cs))
          → Err e ≡ shown_verdict (cond b (refused c.refusal) (verdict (cs ++ ds)))
      go true i f = f
      go false i f = i f

module _ (u : Unit) (ds : List Check) where
  pub first-passed : (cs : List Check) → Ok u ≡ shown_verdict (verdict cs) → verdict (cs ++ ds) ≡ verdict ds
  unfolding verdict
  first-passed [] h = refl
  first-passed (c ∷ cs) h = go c.when (first-passed cs) h
    where
      go : (b : Bool) → (Ok u ≡ shown_verdict (verdict cs) → verdict (cs ++ ds) ≡ verdict ds)
          → Ok u ≡ shown_verdict (cond b (refused c.refusal) (verdict cs))
          → cond b (refused c.refusal) (verdict (cs ++ ds)) ≡ verdict ds
      go true i f = clash (cc)
      go false i f = i f

-- one check, then others, whose verdict is r
pub now : {e : paper.Refusal} (c : Check) (cs : List Check) → Err e ≡ shown_verdict (verdict (c ∷ [])) → Err e ≡ shown_verdict (verdict (c ∷ cs))
now {e} c cs h = first-refused e cs (c ∷ []) h

pub next : {u : Unit} {r : Result Unit paper.Refusal} (c : Check) (cs : List Check) → Ok u ≡ shown_verdict (verdict (c ∷ []))
    → r ≡ shown_verdict (verdict cs) → r ≡ shown_verdict (verdict (c ∷ cs))
next {u} c cs h t = t ∙ ap shown_verdict (sym (first-passed u cs (c ∷ []) h))

-- what `?` returns where it returns: the refusal e of the call
pub exits : {T : Type 0} {s : Result T paper.Refusal} (r : Result T Refusal) (e : Refusal) → IsErrAnd r (λ y. y ≡ e)
    → Err (refusal_meant e) ≡ s → told r ≡ s
exits r e h t = let p = err_from_is_err_and r h in rw (p.1, p.2) t

-- the reading x after checks
pub read-refused : {e : paper.Refusal} (x : asked.Read) (cs : List Check) → Err e ≡ shown_verdict (verdict cs) → Err e ≡ shown_read (after (verdict cs) x)
read-refused {e} x cs h = go (verdict cs) h
  where
    go : (v : paper.Verdict) → Err e ≡ shown_verdict v → Err e ≡ shown_read (after v x)
    go passed f = clash (cc)
    go (refused g) f = cc

pub read-passed : {u : Unit} {r : Result Request paper.Refusal} (x : asked.Read) (cs : List Check) → Ok u ≡ shown_verdict (verdict cs)
    → r ≡ shown_read x → r ≡ shown_read (after (verdict cs) x)
read-passed {u} {r} x cs h t = go (verdict cs) h
  where
    go : (v : paper.Verdict) → Ok u ≡ shown_verdict v → r ≡ shown_read (after v x)
    go passed f = t
    go (refused g) f = clash (cc)

-- a part that is needed
pub needed-given : (place : ℕ) (p : Part) (r : ℕ → asked.Request) (n : ℕ) → p ≡ given n → Ok (shown_request (r n)) ≡ shown_read (needed place p r)
needed-given place p r n e = rw e

pub needed-none : (place : ℕ) (p : Part) (r : ℕ → asked.Request) → p ≡ not_given
    → Err (refusal_at 9 (whole place)) ≡ shown_read (needed place p r)
needed-none place p r e = rw e

-- .. of which `ok_or` makes the error
pub needed-ok : (place : ℕ) (p : Part) (r : ℕ → asked.Request) (f : Refusal) (n : ℕ) → Ok n ≡ ok_or (shown_part p) f
    → Ok (shown_request (r n)) ≡ shown_read (needed place p r)
needed-ok place (given m) r f n h = cc
needed-ok place not_given r f n h = clash (cc)

pub needed-err : (place : ℕ) (p : Part) (r : ℕ → asked.Request) (e : Refusal)
    → Err e ≡ ok_or (shown_part p) (record { number = UnfitDeclaration; place = place; link = 0 }) → Err (refusal_meant e) ≡ shown_read (needed place p r)
needed-err place (given m) r e h = clash (cc)
needed-err place not_given r e h =
    let z : e ≡ record { number = UnfitDeclaration; place = place; link = 0 } = cc in
    ap (λ (y : Refusal). Err (refusal_meant y)) z

-- checks, then the declaration d at this place, of which the function takes t
module _ (r : asked.Request) (cs : List Check) (place : ℕ) (test : Parts → Bool) (d : Declared) where
  pub form-refused : {e : paper.Refusal} → Err e ≡ shown_verdict (verdict cs)
      → Err e ≡ shown_read (read_as r (verdict (cs ++ unfit place (fits test d) ∷ [])))
  form-refused {e} h = read-refused _ _ (first-refused e (unfit place (fits test d) ∷ []) cs h)

  module _ (u : Unit) (passes : Ok u ≡ shown_verdict (verdict cs)) where
    pub form-unfit : None ≡ taken test (shown_declared d)
        → Err (refusal_at 9 (whole place)) ≡ shown_read (read_as r (verdict (cs ++ unfit place (fits test d) ∷ [])))
    unfolding verdict
    form-unfit h = rw (first-passed u (unfit place (fits test d) ∷ []) cs passes, fits_not test d (sym h))

    pub form-fit : (q : rust.Parts) → Some q ≡ taken test (shown_declared d)
        → (Ok (shown_request r) ≡ shown_read (read_as r (verdict (cs ++ unfit place (fits test d) ∷ []))))
        × (q ≡ shown_parts (parts_of d))
    unfolding verdict
    form-fit q h =
        let f = fits-taken test d q (sym h) in
        (rw (first-passed u (unfit place (fits test d) ∷ []) cs passes, f.0), f.1)

-- checks of word k, which is found by its place
checks-at : (checks : Word → List Check) (line : List ℕ) (k p : ℕ) (v : Result Unit paper.Refusal) → p ≡ (word line k).start
    → v ≡ shown_verdict (verdict (checks (word_at line p))) → v ≡ shown_verdict (verdict (checks (word line k)))
checks-at checks line k p v e h = subst (λ (w : Word). v ≡ shown_verdict (verdict (checks w))) (word-here line k p e) h

-- the checks of an old name, word 1, which starts at p
pub old-form : (least most : ℕ) (line : List ℕ) (p : ℕ) (v : Result Unit paper.Refusal) → p ≡ (word line 1).start
    → v ≡ shown_verdict (verdict (old_checks least most line (word_at line p)))
    → v ≡ shown_verdict (verdict (old_checks least most line (word line 1)))
old-form least most line = checks-at (old_checks least most line) line 1

-- the checks of two names, words 1 and 2, which start at p and q
both-form : (checks : Word → Word → List Check) (line : List ℕ) (p q : ℕ) (v : Result Unit paper.Refusal) → p ≡ (word line 1).start → q ≡ (word line 2).start
    → v ≡ shown_verdict (verdict (checks (word_at line p) (word_at line q))) → v ≡ shown_verdict (verdict (checks (word line 1) (word line 2)))
both-form checks line p q v old new h =
    checks-at (λ w. checks (word line 1) w) line 2 q v new (checks-at (λ w. checks w (word_at line q)) line 1 p v old h)

-- those of CHN
abbrev pub chn_checks : List ℕ → Word → Word → List Check
chn_checks line old link = miscounted 2 2 line ∷ malformed 1 old ∷ unlinked 2 link ∷ illegal 1 old ∷ misbased 2 old link ∷ []

pub chn-form : (line : List ℕ) (p q : ℕ) (v : Result Unit paper.Refusal) → p ≡ (word line 1).start → q ≡ (word line 2).start
    → v ≡ shown_verdict (verdict (chn_checks line (word_at line p) (word_at line q)))
    → v ≡ shown_verdict (verdict (chn_checks line (word line 1) (word line 2)))
chn-form line = both-form (chn_checks line) line

-- those of CPY and DUP, then the declaration that is word 3
module _ (r : asked.Request) (take give : Fault) (test : Parts → Bool) (line : List ℕ) (p q : ℕ)
    (old : p ≡ (word line 1).start) (new : q ≡ (word line 2).start) where
  pub both-refused : {e : paper.Refusal} → Err e ≡ shown_verdict (verdict (both_checks line take (word_at line p) give (word_at line q)))
      → Err e ≡ shown_read (read_as r (verdict (both_checks line take (word line 1) give (word line 2) ++ unfit 3 (fits test (declared_at line 3)) ∷ [])))
  both-refused {e} h =
      form-refused r _ 3 test (declared_at line 3) (both-form (λ v w. both_checks line take v give w) line p q (Err e) old new h)

  module _ (u : Unit) (h : Ok u ≡ shown_verdict (verdict (both_checks line take (word_at line p) give (word_at line q)))) where
    pub both-unfit : None ≡ taken test (shown_declared (declared_at line 3))
        → Err (refusal_at 9 (whole 3))
        ≡ shown_read (read_as r (verdict (both_checks line take (word line 1) give (word line 2) ++ unfit 3 (fits test (declared_at line 3)) ∷ [])))
    both-unfit t =
        form-unfit r _ 3 test (declared_at line 3) u (both-form (λ v w. both_checks line take v give w) line p q (Ok u) old new h) t

    pub both-fit : (z : rust.Parts) → Some z ≡ taken test (shown_declared (declared_at line 3))
        → (Ok (shown_request r)
        ≡ shown_read (read_as r (verdict (both_checks line take (word line 1) give (word line 2) ++ unfit 3 (fits test (declared_at line 3)) ∷ []))))
        × (z ≡ shown_parts (parts_at line 3))
    both-fit z t =
        form-fit r _ 3 test (declared_at line 3) u (both-form (λ v w. both_checks line take v give w) line p q (Ok u) old new h) z t

-- a check for each word of a range, one word at a time
module _ (check : ℕ → Word → Check) (line : List ℕ) (a b : ℕ) where
  each_more : a < b → a < length (words line)
      → each check a (between a b line) ≡ (check a (word line a) ∷ []) ++ each check (a + 1) (between (a + 1) b line)
  unfolding each between word
  each_more l h =
      let z : b - a ≡ suc (b - suc a) = omega arith in
      rw (z, drop-cons (words line) a (record { start = length line; names = [] ∷ [] }) h) (simp add-one)

  pub each_none : b ≤ a → each check a (between a b line) ≡ []
  unfolding each between
  each_none l = let z : b - a ≡ 0 = omega arith in rw z

  pub each-past : length (words line) ≤ a → each check a (between a b line) ≡ []
  unfolding each between
  each-past l = rw (drop_of_length-le (words line) l, take-nil)

  pub each-refused : {e : paper.Refusal} → a < b → a < length (words line) → Err e ≡ shown_verdict (verdict (check a (word line a) ∷ []))
      → Err e ≡ shown_verdict (verdict (each check a (between a b line)))
  each-refused {e} l h f = rw (each_more l h) (first-refused e _ (check a (word line a) ∷ []) f)

  pub each-passed : {u : Unit} → a < b → a < length (words line) → Ok u ≡ shown_verdict (verdict (check a (word line a) ∷ []))
      → verdict (each check a (between a b line)) ≡ verdict (each check (a + 1) (between (a + 1) b line))
  each-passed {u} l h f = rw (each_more l h) (first-passed u _ (check a (word line a) ∷ []) f)
