-- A plan after a walk is refused where the walk stopped, and else goes on from the states it came to: the code's walk shows the
-- paper's, so that the case it chooses is the plan's. On a fit table the file that it came to is there.
use mathlib.Core.List.{List}
use mathlib.Core.Logic.{inl, inr}
use mathlib.Core.Path.{◌≡◌, refl, ap, ◌∙◌}
use Prim.Native.Nat.{ℕ}
use Rattle.std.specs.Prelude.{Result, Ok, Err, MatchResult}
use Rattle.std.specs.Result.{IsErrAnd}
use Rattle.std.proofs.lemmas.Result.{err_from_is_err_and}
use Rattle.paper.specs.Line.{Word}
use Rattle.paper.specs.Layout.{boxed}
use Rattle.paper.specs.Entry.{Holder}
use Rattle.laws.proofs.Tests.{clash}
use Rattle.paper.specs.Walk as W
use Rattle.paper.specs.Walk.{to_directory, ended}
use Rattle.paper.specs.Check as check
use Rattle.paper.specs.Effect.{Planned, halted, end_of, onward, inward, to_holder, to_end, list_of, del_plan, dst_plan}
use Rattle.demands.proofs.Sound.Clauses.{sound-clauses}
use Rattle.demands.proofs.Request.Walked as Walked
use Rattle.demands.proofs.Request.Walked.{walk-reached, walk_ends}
use Rattle.words.specs.Shown.{begin_meant}
use Rattle.words.specs.declared.begin.Begin.TheVariants.{Own}
use Rattle.walk.specs.Shown as walking
use Rattle.walk.specs.Shown.{meant, begins, chain_at}
use Rattle.walk.specs.Ends.{end_meant}
use Rattle.walk.specs.declared.state.State.{State}
use Rattle.walk.specs.declared.state.Stop.{Stop}
use Rattle.walk.specs.declared.end.Ends.{Ends}
use Rattle.walk.proofs.Ends.{arrived-last}
use Rattle.records.specs.Shown.{holder_shown}
use Rattle.placing.specs.Placing.{Held}
use Rattle.answers.specs.Shown.{place_shown, refusal_meant, told, answer_of}
use Rattle.answers.specs.declared.Answer.{Answer}
use Rattle.answers.specs.declared.Refusal.{Refusal}
use Rattle.elephant.specs.Done.{Fit, Filed, Did, Wrote}
use Rattle.elephant.specs.Removed.{removal_at, removal_plan, Came}
use Rattle.elephant.specs.Walks.{word_of, walked_by, ended_by}
use Rattle.elephant.specs.declared.removal.Removal.{Removal}
use Rattle.elephant.specs.declared.removal.Removal.TheVariants.{Delete, Destroy}
use Rattle.elephant.specs.declared.removal.Ended.{Ended}
use Rattle.elephant.specs.declared.place.Chain.{Chain}

-- a chain of the user's own
abbrev pub own : ℕ → Chain
own p = record { at = p; begin = Own }

-- what `?` hands up
pub handed : {A : Type 0} (r : Result A Refusal) (h : Refusal) → IsErrAnd r (λ y. y ≡ h) → r ≡ Err h
handed r h q = let p = err_from_is_err_and r q in p.1 ∙ ap Err p.2

-- ---- what an answer of the code says of the paper's walk

pub reached-by : (n : ℕ) (w : W.Walked) (s : State) → Ok s ≡ walked_by n w → w ≡ W.reached (meant s)
reached-by n (W.reached x) s e = let z : walking.shown x ≡ s = cc in ap (λ (y : State). W.reached (meant y)) z
reached-by n (W.stopped m l) s e = clash (cc)

stopped-by : (n : ℕ) (w : W.Walked) (g : check.Refusal) → Err g ≡ walked_by n w → (f : W.State → Planned) → onward n w f ≡ halted g
stopped-by n (W.reached x) g e f = clash (cc)
stopped-by n (W.stopped m l) g e f = let z : check.refusal_at m (check.at_link n l) ≡ g = cc in ap halted z

pub arrived-by : (n : ℕ) (e : W.End) (x : Ends) → Ok x ≡ ended_by n e → e ≡ W.arrived (meant x.directory) (meant x.file)
arrived-by n (W.arrived d f) x e =
    let z : record { directory = walking.shown d; file = walking.shown f } ≡ x = cc in ap (λ (y : Ends). W.arrived (meant y.directory) (meant y.file)) z
arrived-by n (W.astray m l) x e = clash (cc)

astray-by : (n : ℕ) (e : W.End) (h : check.Refusal) → Err h ≡ ended_by n e → (g : W.State → W.State → Planned)
    → inward n e g ≡ halted h
astray-by n (W.arrived d f) h e g = clash (cc)
astray-by n (W.astray m l) h e g = let z : check.refusal_at m (check.at_link n l) ≡ h = cc in ap halted z

-- the refusal that a stop is
abbrev pub stopped : ℕ → Stop → Refusal
stopped n s = record { number = s.number; place = place_shown (check.at_link n s.link) }

pub walked-shown : (n : ℕ) (e : W.Walked) (w : Result State Stop) (r : Result State Refusal) → walking.walked_meant w ≡ e
    → MatchResult w (λ x. r ≡ Ok x) (λ s. IsErrAnd r (λ y. y ≡ stopped n s)) → told r ≡ walked_by n e
walked-shown n e (Ok x) r m q = rw (q, ← m)
walked-shown n e (Err s) r m q = rw (handed r _ q, ← m)

pub ended-shown : (n : ℕ) (e : W.End) (w : Result Ends Stop) (r : Result Ends Refusal) → end_meant w ≡ e
    → MatchResult w (λ x. r ≡ Ok x) (λ s. IsErrAnd r (λ y. y ≡ stopped n s)) → told r ≡ ended_by n e
ended-shown n e (Ok x) r m q = rw (q, ← m)
ended-shown n e (Err s) r m q = rw (handed r _ q, ← m)

-- a plan halted there
halts : (t : List ℕ) (k : ℕ) (x : Planned) (h : Refusal) → x ≡ halted (refusal_meant h) → (r : Result Answer Refusal) → r ≡ Err h
    → Did t k x (answer_of r) t
halts t k x h e r q = rw (e, q) (record { answer = refl; table = refl })

-- ---- to a directory

module _ (t line : List ℕ) (u n : ℕ) (c : Chain) (f : W.State → Planned) where
  abbrev onwards : Planned
  onwards = to_holder boxed t (list_of u (begin_meant c.begin)) n (word_of line c) f

  module _ (k : ℕ) where
    pub holder-stops : (h : Refusal) → Err (refusal_meant h) ≡ walked_by n (to_directory boxed t 1 (begins u c.begin) (chain_at line c.at c.begin))
        → (r : Result Answer Refusal) → r ≡ Err h → Did t k onwards (answer_of r) t
    holder-stops h e r q = halts t k onwards h (stopped-by n (to_directory boxed t 1 (begins u c.begin) (chain_at line c.at c.begin)) (refusal_meant h) e f) r q

    pub holder-reaches : (d : State) → Ok d ≡ walked_by n (to_directory boxed t 1 (begins u c.begin) (chain_at line c.at c.begin))
        → (r : Answer) (x : List ℕ) → Did t k (f (meant d)) r x → Did t k onwards r x
    holder-reaches d e r x y = rw (reached-by n (to_directory boxed t 1 (begins u c.begin) (chain_at line c.at c.begin)) d e) y

-- ---- to a file

-- one name of a DEL or of a DST is done at its end
pub removal-end : (a : Removal) (t : List ℕ) (u argument : ℕ) (w : Word)
    → removal_plan a t u argument w ≡ to_end boxed t u argument w (removal_at a t (end_of argument w))
unfolding del_plan dst_plan
removal-end Delete t u argument w = refl
removal-end Destroy t u argument w = refl

module _ (t line : List ℕ) (u n : ℕ) (c : Chain) (g : W.State → W.State → Planned) where
  abbrev end : Planned
  end = to_end boxed t (list_of u (begin_meant c.begin)) n (word_of line c) g

  module _ (h : Refusal) (e : Err (refusal_meant h) ≡ ended_by n (ended boxed t (begins u c.begin) (chain_at line c.at c.begin))) where
    stops : end ≡ halted (refusal_meant h)
    stops = astray-by n (ended boxed t (begins u c.begin) (chain_at line c.at c.begin)) (refusal_meant h) e g

    pub end-off : (k : ℕ) (r : Result Answer Refusal) → r ≡ Err h → Did t k end (answer_of r) t
    end-off k r q = halts t k end h stops r q

    pub name-off : (k : ℕ) → Came t k end (Err (record { refusal = h; left = k })) t
    name-off k = rw stops (record { answer = refl; table = refl })

    pub read_off : (reply : List ℕ) (r : Result Answer Refusal) → r ≡ Err h → Wrote t reply end (answer_of r) reply
    read_off reply r q = rw (stops, q) (record { answer = refl; reply = refl })

  module _ (x : Ends) (e : Ok x ≡ ended_by n (ended boxed t (begins u c.begin) (chain_at line c.at c.begin))) where
    arrives : end ≡ g (meant x.directory) (meant x.file)
    arrives = ap (λ (y : W.End). inward n y g) (arrived-by n (ended boxed t (begins u c.begin) (chain_at line c.at c.begin)) x e)

    pub end-at : (k : ℕ) (a : Answer) (v : List ℕ) → Did t k (g (meant x.directory) (meant x.file)) a v → Did t k end a v
    end-at k a v w = rw arrives w

    pub name-at : (k : ℕ) (a : Result ℕ Ended) (v : List ℕ) → Came t k (g (meant x.directory) (meant x.file)) a v → Came t k end a v
    name-at k a v w = rw arrives w

    pub read_at_lem : (reply : List ℕ) (a : Answer) (v : List ℕ) → Wrote t reply (g (meant x.directory) (meant x.file)) a v → Wrote t reply end a v
    read_at_lem reply a v w = rw arrives w

-- the file is there
pub filed : (t line : List ℕ) (u n : ℕ) (c : Chain) (x : Ends) → Ok x ≡ ended_by n (ended boxed t (begins u c.begin) (chain_at line c.at c.begin))
    → Fit t → Filed t (meant x.file)
filed t line u n c x e h =
    let ns : List (List ℕ) = chain_at line c.at c.begin in
    let y = arrived-by n (ended boxed t (begins u c.begin) ns) x e in
    let last = arrived-last t (begins u c.begin) ns (meant x.directory) (meant x.file) y in
    let w = walk-reached 65535 t (sound-clauses t h.sized h.sound) (meant x.directory) ns (meant x.file) last in
    record { fit = h; entry = w.looked.within; stands = w.looked.stands.kind; heading = w.within; kind = w.heading }

-- the directory is a base list, or it is there
pub reached-held : (t line : List ℕ) (u n : ℕ) (c : Chain) (d : State)
    → Ok d ≡ walked_by n (to_directory boxed t 1 (begins u c.begin) (chain_at line c.at c.begin)) → Fit t → Held t (holder_shown d.holder)
reached-held t line u n c d e h =
    let r = reached-by n (to_directory boxed t 1 (W.start v) ns) d e in
    go (walk_ends 65535 t (sound-clauses t h.sized h.sound) 1 v ns (meant d) r)
  where
    v : ℕ
    v = list_of u (begin_meant c.begin)

    ns : List (List ℕ)
    ns = chain_at line c.at c.begin

    go : Walked.Ends t v ns (meant d) → Held t (holder_shown d.holder)
    go (Walked.base l e) = inl (ap (λ (s : W.State). s.holder.heading) e)
    go (Walked.inside l i) =
        let g : d.holder.heading.0 ≡ i.heading = ap (λ (x : Holder). x.heading) i.holder in
        inr (rw g i.directory, ap (λ (x : Holder). x.user) i.holder)

-- ---- to a file and to a directory

module _ (t line : List ℕ) (u : ℕ) (old new : Chain) (g : W.State → W.State → Planned) where
  abbrev new-plan : W.State → W.State → Planned
  new-plan d f = to_holder boxed t (list_of u (begin_meant new.begin)) 2 (word_of line new) (g f)

  abbrev both-plan : Planned
  both-plan = to_end boxed t (list_of u (begin_meant old.begin)) 1 (word_of line old) new-plan

  pub both-off : (h : Refusal) → Err (refusal_meant h) ≡ ended_by 1 (ended boxed t (begins u old.begin) (chain_at line old.at old.begin))
      → (k : ℕ) (r : Result Answer Refusal) → r ≡ Err h → Did t k both-plan (answer_of r) t
  both-off h e k r q = end-off t line u 1 old new-plan h e k r q

  module _ (x : Ends) (e : Ok x ≡ ended_by 1 (ended boxed t (begins u old.begin) (chain_at line old.at old.begin))) (k : ℕ) where
    pub both-stops : (h : Refusal) → Err (refusal_meant h) ≡ walked_by 2 (to_directory boxed t 1 (begins u new.begin) (chain_at line new.at new.begin))
        → (r : Result Answer Refusal) → r ≡ Err h → Did t k both-plan (answer_of r) t
    both-stops h z r q = end-at t line u 1 old new-plan x e k (answer_of r) t (holder-stops t line u 2 new (g (meant x.file)) k h z r q)

    pub both-reaches : (d : State) → Ok d ≡ walked_by 2 (to_directory boxed t 1 (begins u new.begin) (chain_at line new.at new.begin))
        → (a : Answer) (v : List ℕ) → Did t k (g (meant x.file) (meant d)) a v → Did t k both-plan a v
    both-reaches d z a v y = end-at t line u 1 old new-plan x e k a v (holder-reaches t line u 2 new (g (meant x.file)) k d z a v y)
