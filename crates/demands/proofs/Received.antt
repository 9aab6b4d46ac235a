-- "Codes join as always, so nobody receives more than the giver's entry has": the new entry of a DUP has every bit of the entry followed, since
-- its code is joined with that; it names the same heading, whose code stays, so what applies by the one contains what applied by the other.
use mathlib.Core.Bool.{Bool, true, false, ◌&&◌, not, cond, true≢false}
use mathlib.Core.List.{List, [], ◌∷◌, ◌++◌}
use mathlib.Core.Logic.{◌⊎◌, inl, inr, ◌≢◌}
use mathlib.Core.Path.{◌≡◌, refl, sym, ap, ◌∙◌}
use Prim.Native.Nat.{ℕ, ◌≤◌, ◌<◌}
use native.Mathlib.Omega.{arith}
use lib.ListN.{length}
use lib.Dec.{ltb}
use borrow.Author.Tests.{ltb-false, not-true, eq-eqb}
use Rattle.paper.specs.Scan.{Found, at, nowhere, all_below}
use Rattle.paper.specs.Record.{byte, is_kind, entry_code, heading_named, names}
use Rattle.paper.specs.Layout.{boxed}
use Rattle.paper.specs.Table.{sized, rooms, rec, lay, frees, room, text_room}
use Rattle.paper.specs.Declaration.{Part, or_else}
use Rattle.paper.specs.Line.{Word}
use Rattle.paper.specs.Check.{Place, whole, Refusal, refusal_at, Verdict, passed, refused, verdict}
use Rattle.paper.specs.Request.{Begin, own, take_of, give_to, Request, dup, request, asked}
use Rattle.paper.specs.Code.{joined, lacks, no_write}
use Rattle.paper.specs.Entry.{named, full}
use Rattle.paper.specs.Sound.{sound}
use Rattle.paper.specs.Block.{blocks_of}
use Rattle.paper.specs.Walk.{State, start, applies, file, reached, to_directory, to_last, last_name}
use Rattle.paper.specs.Store.{puts, clear, run}
use Rattle.paper.specs.Count.{recounts}
use Rattle.paper.specs.Effect.{list_of, begun, Plan, Planned, plan, halted, chain_of, end_of, Making, is_found, borne, placing, needed, displacing, freed, with_counts, lost, settled, write_inhibited, link_taken, linking, making, dup_plan}
use Rattle.paper.specs.Answer.{Outcome, ran, single, granted, entrance, admitted, requested}
use Rattle.laws.proofs.Tests.{and_both, not-both, clash}
use Rattle.laws.proofs.Scans.{all_true, any_here}
use Rattle.laws.proofs.Lists.{Every, every-each, every-parts}
use Rattle.laws.proofs.Fields.{entry-record-kind, entry-heading, length-entry}
use Rattle.laws.proofs.Fields as F
use Rattle.laws.proofs.Entries.{found-stands}
use Rattle.laws.proofs.Lay.{length-blank, lay-same, lay-other, rooms-lay, within, kinds-apart}
use Rattle.laws.proofs.Runs.{Lays, run-each, run-append, rooms-run}
use Rattle.laws.proofs.Rooms.{room-below, room-kind}
use Rattle.demands.proofs.Sound.Clauses.{Sound, sound-clauses, entry-code}
use Rattle.demands.proofs.Request.Chains.{names_at}
use Rattle.demands.proofs.Request.Spoken.{Spoken}
use Rattle.demands.proofs.Request.Fair.{Idle, fair-some, verdict-idle}
use Rattle.demands.proofs.Request.Formed.{within-else}
use Rattle.demands.proofs.Request.Read.{Told, DupRead}
use Rattle.demands.proofs.Request.Course.{Course, untried, tried, course}
use Rattle.demands.proofs.Request.Steps.{Walks, holder-by, end_by}
use Rattle.demands.proofs.Request.Walked.{Reached, walk-reached}
use Rattle.demands.proofs.Request.Ended.{Refused, walking, checked, Passed, ran-by}
use Rattle.demands.proofs.SoundKept.Freed.{text-found}
use Rattle.demands.proofs.Mending.Part.{Alike}
use Rattle.demands.proofs.Mending.Counts.{alike-byte, alike_same, recounts-each}
use Rattle.demands.proofs.Answered.Numbered.{fair-refused, fair-dup_plan}

-- ---- codes

-- three codes of three bits: h joined with e and c has every bit of h joined with e
abbrev keeps : ℕ → ℕ → ℕ → Bool
keeps h e c = not (lacks (joined h (joined e c)) (joined h e))

keeps-all : all_below (λ h. all_below (λ e. all_below (keeps h e) 8) 8) 8 ≡ true
unfolding all_below
keeps-all = refl

joined_keeps : (h e c : ℕ) → h ≤ 7 → e ≤ 7 → c ≤ 7 → lacks (joined h (joined e c)) (joined h e) ≡ false
joined_keeps h e c l m n =
    let a = all_true (λ h. all_below (λ e. all_below (keeps h e) 8) 8) 8 h (omega arith) keeps-all in
    let b = all_true (λ e. all_below (keeps h e) 8) 8 e (omega arith) a in
    not-true _ (all_true (keeps h e) 8 c (omega arith) b)

abbrev keeps-two : ℕ → ℕ → Bool
keeps-two e c = not (lacks (joined e c) e)

two-all : all_below (λ e. all_below (keeps-two e) 8) 8 ≡ true
unfolding all_below
two-all = refl

entry-keeps : (e c : ℕ) → e ≤ 7 → c ≤ 7 → lacks (joined e c) e ≡ false
entry-keeps e c m n =
    let b = all_true (λ e. all_below (keeps-two e) 8) 8 e (omega arith) two-all in
    not-true _ (all_true (keeps-two e) 8 c (omega arith) b)

-- ---- the new entry

-- record e of the table s is an entry of the file that the walk in t came to, and lacks no bit of the entry followed there
pub record Handed (t : List ℕ) (giver : State) (s : List ℕ) (e : ℕ) : Type 0 where
  pub kind : byte (rec s e) 0 ≡ 2
  pub names : heading_named (rec s e) ≡ file t giver
  pub code : lacks (entry_code (rec s e)) (entry_code (rec t giver.entry)) ≡ false
  pub applies : lacks (applies s e) (applies t giver.entry) ≡ false

-- "A give never displaces.": its record was free
abbrev pub Fresh : Begin → List ℕ → ℕ → Type 0
Fresh own t e = Unit {0}
Fresh (take_of n) t e = Unit {0}
Fresh (give_to n) t e = byte (rec t e) 0 ≡ 0

-- what a DUP with the old name from the base list of user v has handed over in s
pub record Received (t : List ℕ) (v : ℕ) (old : Word) (to : Begin) (s : List ℕ) : Type 0 where
  pub directory : State
  pub giver : State
  pub walked : to_directory boxed t 1 (start v) (chain_of old) ≡ reached directory
  pub last : to_last boxed t directory (chain_of old) ≡ reached giver
  pub entry : ℕ
  pub handed : Handed t giver s entry
  pub fresh : Fresh to t entry

module _ (t : List ℕ) (c : Sound t) (d f g : State) (new : Word) (code : Part) (old : List (List ℕ))
    (r : Reached t g (last_name old) f) (b : or_else code 0 ≤ 7) where
  abbrev h : ℕ
  h = file t f

  abbrev j : ℕ
  j = joined (entry_code (rec t f.entry)) (or_else code 0)

  abbrev entry : List ℕ
  entry = (linking boxed t f d new code).entry

  size : length entry ≡ 32
  size = length-entry j d.holder.heading h d.holder.user (last_name (chain_of new))

  is-entry : byte entry 0 ≡ 2
  is-entry = entry-record-kind j d.holder.heading h d.holder.user (last_name (chain_of new))

  names-h : heading_named entry ≡ h
  names-h = entry-heading j d.holder.heading h d.holder.user (last_name (chain_of new)) (omega (arith, r.within, c.few))

  has_code : entry_code entry ≡ j
  has_code = F.entry-code j d.holder.heading h d.holder.user (last_name (chain_of new))

  -- where the entry stands and the heading stays, but for its counts
  handed : (s : List ℕ) (e : ℕ) → Alike entry (rec s e) → Alike (rec t h) (rec s h) → Handed t f s e
  unfolding applies
  handed s e x y =
      let m = entry-code (rec t f.entry) r.own in
      let p : rec s e ≡ entry = alike_same entry (rec s e) x (rw is-entry) in
      let q : byte (rec s h) 3 ≡ byte (rec t h) 3 = alike-byte (rec t h) (rec s h) y 3 (omega arith) in
      record {
        kind = rw p is-entry;
        names = rw p names-h;
        code = rw (p, has_code) (entry-keeps _ _ m b);
        applies = rw (p, names-h, q, has_code) (joined_keeps _ _ _ r.fields.code m b);
      }

  -- the entry laid in a record that is no heading, and the counts corrected
  module _ (e : ℕ) (l : e < rooms t) (o : h ≢ e) where
    abbrev laid : List ℕ
    laid = lay t e entry

    abbrev told : List ℕ
    told = run laid (recounts laid)

    rooms-told : rooms told ≡ rooms t
    rooms-told = rooms-run laid (recounts laid) ∙ rooms-lay t e entry

    alike : (i : ℕ) → i < rooms t → Alike (rec laid i) (rec told i)
    alike i m = recounts-each laid i (rw (rooms-lay t e entry) m)

    -- whatever is done then to other records
    handed-by : (s : List ℕ) → rec s e ≡ rec told e → rec s h ≡ rec told h → Handed t f s e
    handed-by s p q =
        handed s e (rw p (rw (lay-same t e entry size l) at (alike e l))) (rw q (rw (lay-other t e entry h size o r.within) at (alike h r.within)))

  in-free : (e : ℕ) → e < rooms t → byte (rec t e) 0 ≡ 0 → Handed t f (run t (with_counts t (puts e entry ∷ []))) e
  unfolding run
  in-free e l k = handed-by e l (kinds-apart t h e 1 0 r.heading k (omega arith)) (told e l (kinds-apart t h e 1 0 r.heading k (omega arith))) refl refl

  -- over an entry: what is cleared then is neither the entry nor the heading, which it names
  module _ (e : ℕ) (l : e < rooms t) (k : byte (rec t e) 0 ≡ 2) where
    abbrev Besides : ℕ → List ℕ → Type 0
    Besides i x = (i ≢ e) × (i ≢ h)

    abbrev lost-heading : ℕ
    lost-heading = heading_named (rec t e)

    named_new : named (lay t e entry) h ≡ true
    unfolding named
    named_new =
        any_here (λ i. names h (rec (lay t e entry) i)) (rooms (lay t e entry)) e (rw (rooms-lay t e entry) l)
        (rw (lay-same t e entry size l) (and_both (is_kind 2 entry) _ (eq-eqb _ _ is-entry) (eq-eqb _ _ names-h)))

    o : h ≢ e
    o = kinds-apart t h e 1 2 r.heading k (omega arith)

    spared : Every (Lays Besides (rooms (told e l o))) (settled t e entry)
    unfolding settled freed lost
    spared = go (lost t e entry) refl
      where
        one : byte (rec t lost-heading) 0 ≡ 1
        one = c.targets e l k

        in_table : (i : ℕ) → i < rooms t → i < rooms (told e l o)
        in_table i m = rw (rooms-told e l o) m

        text : (p : ℕ) → p < blocks_of t lost-heading → Lays Besides (rooms (told e l o)) (clear (text_room t lost-heading p))
        text p m =
            let x = text-found 65535 t lost-heading c one p m in
            record {
              within = in_table _ x.0;
              size = length-blank;
              holds = (kinds-apart t _ e 3 2 x.1.kind k (omega arith), kinds-apart t _ h 3 1 x.1.kind r.heading (omega arith));
            }

        go : (y : Bool) → lost t e entry ≡ y → Every (Lays Besides (rooms (told e l o))) (cond y (freed t lost-heading) [])
        go false q = tt
        go true q = (
          record {
            within = in_table _ (within t lost-heading c.whole (omega (arith, one)));
            size = length-blank;
            holds = (
              kinds-apart t _ e 1 2 one k (omega arith),
              λ (z : lost-heading ≡ h). not-both named_new (rw z at (not-true (named (lay t e entry) lost-heading) q)),
            );
          },
          every-each _ _ (blocks_of t lost-heading) text,
        )

    abbrev after : List ℕ
    after = run (told e l o) (settled t e entry)

    -- after that each record is as the counts left it, or is another
    each : (i : ℕ) → i < rooms t → (rec after i ≡ rec (told e l o) i) ⊎ Besides i (rec after i)
    each i m = run-each Besides (told e l o) (settled t e entry) spared i (rw (rooms-told e l o) m)

    over : Handed t f (run t (with_counts t (puts e entry ∷ []) ++ settled t e entry)) e
    unfolding run
    over = rw (run-append t (with_counts t (puts e entry ∷ [])) (settled t e entry)) (handed-by e l o after (at-e (each e l)) (at-h (each h r.within)))
      where
        at-e : (rec after e ≡ rec (told e l o) e) ⊎ Besides e (rec after e) → rec after e ≡ rec (told e l o) e
        at-e (inl q) = q
        at-e (inr q) = absurd (q.0 refl)

        at-h : (rec after h ≡ rec (told e l o) h) ⊎ Besides h (rec after h) → rec after h ≡ rec (told e l o) h
        at-h (inl q) = q
        at-h (inr q) = absurd (q.1 refl)

-- ---- the plan, and the request

-- the stores of a plan whose checks pass
abbrev Hands : List ℕ → ℕ → Word → Begin → Planned → Type 0
Hands t v old to (plan p) = verdict p.checks ≡ passed → Received t v old to (run t p.stores)
Hands t v old to (halted f) = Unit {0}

dup-hands : (t : List ℕ) → Sound t → (v u : ℕ) (to : Begin) (old new : Word) (code : Part) → DupRead old new to code
    → Hands t v old to (dup_plan boxed t v u to old new code)
unfolding dup_plan making
dup-hands t c v u to old new code x =
    end_by (Hands t v old to) 1 (λ _ _ _. tt) t v old _ (λ g f q r. holder-by (Hands t v old to) 2 (λ _ _ _. tt) t u new _ (λ d _. makes g f d q r))
  where
    most : or_else code 0 ≤ 7
    most = (within-else 0 7 0 code x.code (omega arith) (omega arith)).1

    makes : (g f d : State) → to_directory boxed t 1 (start v) (chain_of old) ≡ reached g → to_last boxed t g (chain_of old) ≡ reached f
        → Hands t v old to (making boxed t (linking boxed t f d new code) [] (link_taken boxed t to (linking boxed t f d new code)) [])
    makes g f d q r e =
        let a = every-parts Idle (write_inhibited m.place d ∷ link_taken boxed t to m) _ (verdict-idle _ e) in
        go (borne boxed t m) refl a.0.1 (ltb-false _ _ a.1.1.1.0)
      where
        m : Making
        m = linking boxed t f d new code

        w : Reached t g (last_name (chain_of old)) f
        w = walk-reached 65535 t c g (chain_of old) f r

        go : (y : Found) → borne boxed t m ≡ y → Every Idle (link_taken boxed t to m) → needed m y ≤ length (frees t)
            → Received t v old to (run t (placing t m y))
        go (at i) z idle enough =
            let s = found-stands t d.holder (last_name (chain_of new)) i z in
            record {
              directory = g;
              giver = f;
              walked = q;
              last = r;
              entry = i;
              handed = over t c d f g new code (chain_of old) w most i s.0 s.1.kind;
              fresh = fresh to idle;
            }
          where
            fresh : (b : Begin) → Every Idle (link_taken boxed t b m) → Fresh b t i
            fresh own h = tt
            fresh (take_of n) h = tt
            fresh (give_to n) h = let y : is_found (at i) ≡ false = rw z at h.0 in absurd (true≢false y)
        go nowhere z idle enough =
            let k = room-kind t 0 (omega arith) in
            record {
              directory = g;
              giver = f;
              walked = q;
              last = r;
              entry = room t 0;
              handed = in-free t c d f g new code (chain_of old) w most (room t 0) (room-below t 0 (omega arith)) k;
              fresh = fresh to;
            }
          where
            fresh : (b : Begin) → Fresh b t (room t 0)
            fresh own = tt
            fresh (take_of n) = tt
            fresh (give_to n) = room-kind t 0 (omega arith)

-- the theorem: every DUP that is done, so every give and every take by DUP
pub nobody-more : (t line text reply : List ℕ) (u k : ℕ) (from : Begin) (old : Word) (to : Begin) (new : Word) (code : Part)
    → asked line text ≡ request (dup from old to new code) → (requested boxed t line text reply u k).answer.number ≡ 0
    → Received t (list_of u from) (begun from old) to (requested boxed t line text reply u k).table
unfolding granted
nobody-more t line text reply u k from old to new code a z = go (course t line text reply u)
  where
    x : Planned
    x = dup_plan boxed t (list_of u from) (list_of u to) to (begun from old) (begun to new) code

    ends : Hands t (list_of u from) (begun from old) to x → Spoken (names_at line) (dup from old to new code)
        → (single t reply k (ran k x)).answer.number ≡ 0 → Received t (list_of u from) (begun from old) to (single t reply k (ran k x)).table
    ends h w =
        ran-by (λ y. (single t reply k y).answer.number ≡ 0 → Received t (list_of u from) (begun from old) to (single t reply k y).table) k x
        (λ f v n.
        let b = fair-dup_plan (names_at line) t reply (list_of u to) (list_of u from) to (begun from old) (begun to new) code w.0 w.1 in
        let g = fair-refused (names_at line) reply x f b v in
        let o : ⊥ = omega (arith, fair-some (names_at line) f g, n) in absurd o)
        (λ p v _ _. let s : Hands t (list_of u from) (begun from old) to (plan p) = rw v.plan at h in s v.checks)
        (λ p v _ n. let o : ⊥ = omega arith in absurd o)

    grants : (r : Request) → r ≡ dup from old to new code → Sound t → Told text r → Spoken (names_at line) r
        → requested boxed t line text reply u k ≡ granted boxed t text reply u k r
        → Received t (list_of u from) (begun from old) to (requested boxed t line text reply u k).table
    grants r q c h w e =
        let y : requested boxed t line text reply u k ≡ single t reply k (ran k x) = rw q at e in
        let s : Told text (dup from old to new code) = rw q at h in
        rw y (ends (dup-hands t c (list_of u from) (list_of u to) to (begun from old) (begun to new) code s) (rw q at w) (rw y at z))

    go : Course t line text reply u → Received t (list_of u from) (begun from old) to (requested boxed t line text reply u k).table
    go (untried f h e) = let n : f.number ≡ 0 = rw (e k) at z in let o : ⊥ = omega (arith, fair-some (names_at line) f h) in absurd o
    go (tried r h e) =
        let q = sym h.asked ∙ a in
        let s : r ≡ dup from old to new code = cc in
        grants r s (sound-clauses t h.sized h.sound) h.told h.spoken (e k)

-- ---- "A give never displaces."

-- a plan that displaces nothing, and is not refused with 18
abbrev Plain : Planned → Type 0
Plain (plan p) = (verdict p.checks ≡ passed → p.displaced ≡ false) × ((f : Refusal) → verdict p.checks ≡ refused f → f.number ≢ 18)
Plain (halted f) = f.number ≢ 18

another : (n : ℕ) (p : Place) (f : Refusal) → n ≢ 18 → refused (refusal_at n p) ≡ refused f → f.number ≢ 18
another n p f d e z = let q : refusal_at n p ≡ f = cc in d (ap (λ (x : Refusal). x.number) q ∙ z)

give-plain : (t : List ℕ) (v u n : ℕ) (old new : Word) (code : Part) → Plain (dup_plan boxed t v u (give_to n) old new code)
unfolding dup_plan making verdict
give-plain t v u n old new code =
    end_by Plain 1 walks t v old _ (λ _ f _ _. holder-by Plain 2 walks t u new _ (λ d _.
    let m : Making = linking boxed t f d new code in
    by m.entry (no_write d.code) (borne boxed t m) (full t d.holder) (ltb (length (frees t)) (needed m (borne boxed t m)))))
  where
    walks : (n link : ℕ) → Walks n → n ≢ 18
    walks n link (inl (inl e)) = λ (z : n ≡ 18). omega arith
    walks n link (inl (inr e)) = λ (z : n ≡ 18). omega arith
    walks n link (inr e) = λ (z : n ≡ 18). omega arith

    -- 14, 16, 17, 18 and 19
    judged : List ℕ → Bool → Found → Bool → Bool → Verdict
    judged r a y b c =
        cond a (refused (refusal_at 14 (end_of 2 new)))
        (cond (is_found y) (refused (refusal_at 16 (end_of 2 new)))
        (cond (not (is_found y) && b) (refused (refusal_at 17 (end_of 2 new)))
        (cond (displacing t y r) (refused (refusal_at 18 (end_of 2 new))) (cond c (refused (refusal_at 19 (whole 0))) passed))))

    by : (r : List ℕ) (a : Bool) (y : Found) (b c : Bool)
        → (judged r a y b c ≡ passed → is_found y ≡ false) × ((f : Refusal) → judged r a y b c ≡ refused f → f.number ≢ 18)
    by r true y b c = (λ e. clash (cc), λ f. another 14 _ f (omega arith))
    by r false (at i) b c = (λ e. clash (cc), λ f. another 16 _ f (omega arith))
    by r false nowhere true c = (λ _. refl, λ f. another 17 _ f (omega arith))
    by r false nowhere false true = (λ _. refl, λ f. another 19 _ f (omega arith))
    by r false nowhere false false = (λ _. refl, λ f e. clash (cc))

abbrev Still : Outcome → Type 0
Still o = (o.answer.displaced ≡ 0) × (o.answer.number ≢ 18)

-- the theorem: every give, whatever it answers
pub never-displaces : (t line text reply : List ℕ) (u k : ℕ) (from : Begin) (old : Word) (n : ℕ) (new : Word) (code : Part)
    → asked line text ≡ request (dup from old (give_to n) new code)
    → ((requested boxed t line text reply u k).answer.displaced ≡ 0) × ((requested boxed t line text reply u k).answer.number ≢ 18)
unfolding requested granted entrance verdict
never-displaces t line text reply u k from old n new code a =
    enters (not (sized t)) (not (sound boxed t)) (ltb 999999 u)
  where
    x : Planned
    x = dup_plan boxed t (list_of u from) n (give_to n) (begun from old) (begun (give_to n) new) code

    plain : Plain x
    plain = give-plain t (list_of u from) n n (begun from old) (begun (give_to n) new) code

    done_plain : (p : Plan) → Passed x p → p.displaced ≡ false
    done_plain p v = let s : Plain (plan p) = rw v.plan at plain in s.0 v.checks

    refused-plain : (f : Refusal) → Refused x f → f.number ≢ 18
    refused-plain f (walking e) = rw e at plain
    refused-plain f (checked p e w) = let s : Plain (plan p) = rw e at plain in s.1 f w

    ends : Still (single t reply k (ran k x))
    ends =
        ran-by (λ y. Still (single t reply k y)) k x
        (λ f v. (refl, refused-plain f v))
        (λ p v _. (rw (done_plain p v), λ (z : ◌≡◌ {A = ℕ} 0 18). let o : ⊥ = omega arith in absurd o))
        (λ p v _. (refl, λ (z : ◌≡◌ {A = ℕ} 22 18). let o : ⊥ = omega arith in absurd o))

    enters : (b c d : Bool) → Still (admitted boxed t line text reply u k
        (cond b (refused (refusal_at 1 (whole 0))) (cond c (refused (refusal_at 2 (whole 0))) (cond d (refused (refusal_at 3 (whole 0))) passed))))
    enters true c d = (refl, λ (z : ◌≡◌ {A = ℕ} 1 18). let o : ⊥ = omega arith in absurd o)
    enters false true d = (refl, λ (z : ◌≡◌ {A = ℕ} 2 18). let o : ⊥ = omega arith in absurd o)
    enters false false true = (refl, λ (z : ◌≡◌ {A = ℕ} 3 18). let o : ⊥ = omega arith in absurd o)
    enters false false false = rw a ends
