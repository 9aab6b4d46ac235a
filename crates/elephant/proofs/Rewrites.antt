-- WRS* at the end of its walk, by the tests that the code makes: each refusal is one check of its plan.
-- Where none holds, four stages are its stores: the new text's records are listed once the old text is gone, and if the stop number
-- comes before that, no store is left for the new text.
use mathlib.Core.Bool.{true, false, not}
use mathlib.Core.List.{List, [], ◌∷◌, ◌++◌, append_assoc}
use mathlib.Core.Path.{◌≡◌, refl, sym, ap, ◌∙◌}
use Prim.Native.Nat.{ℕ, ◌+◌, ◌≤◌, ◌<◌}
use native.Mathlib.Omega.{arith}
use lib.Dec.{eqb}
use lib.ListN.{length, length-append}
use Rattle.paper.specs.Record.{byte, lifetime, text_length, simple, padded, rewritten}
use Rattle.paper.specs.Table.{sized, rooms, rec}
use Rattle.paper.specs.Code.{no_write}
use Rattle.paper.specs.Check.{Place, whole, Check, verdict}
use Rattle.paper.specs.Block.{blocks, blocks_of}
use Rattle.paper.specs.Store.{Store, puts, run}
use Rattle.paper.specs.Walk.{file}
use Rattle.paper.specs.Answer.{plain}
use Rattle.paper.specs.Effect.{write_inhibited, not_simple, no_room_for, is_long, emptying, emptied, laying, rewriting, rewrite_at}
use Rattle.laws.proofs.Runs.{length_run}
use Rattle.demands.proofs.Sound.Clauses.{sound-clauses, length_most}
use Rattle.records.proofs.Builds.{whole-there}
use Rattle.effects.specs.Listed.{free_rooms, text_rooms}
use Rattle.effects.specs.Stage.{Made, text_stores, clear_texts}
use Rattle.effects.proofs.Stages.{made-both, made-onto}
use Rattle.effects.proofs.Papers.{texts-laid, texts-cleared, text-stores-length, clear-texts-length}
use Rattle.walk.specs.Shown.{meant}
use Rattle.walk.specs.declared.state.State.{State}
use Rattle.answers.specs.Shown.{shown, stored}
use Rattle.elephant.specs.Done.{Fit, Tried, Did}
use Rattle.elephant.proofs.Verdicts.{first_holds, first_passes, none_left, second_holds, did-refused, did-tried}

-- ---- the stores

module _ (t : List ℕ) (h : ℕ) (text : List ℕ) (f : Fit t) (l : h < rooms t) (k : byte (rec t h) 0 ≡ 1) (few : length text ≤ 24000) where
  old-few : blocks_of t h ≤ 1000
  old-few = omega (arith, length_most (rec t h) (((sound-clauses t f.sized f.sound).own h l).heading k))

  -- the new text, and it and the heading, on a table that is u
  abbrev laid : List ℕ → List Store
  laid u = text_stores h (free_rooms u (blocks (length text))) 0 text

  abbrev onward : List ℕ → List Store
  onward u = laid u ++ puts h (rewritten (rec t h) 0 (length text)) ∷ []

  module _ (r : List ℕ) (b n : ℕ) (p : r ≡ text_rooms t h b) (q : b ≡ blocks n) (o : n ≡ text_length (rec t h)) where
    abbrev front : List Store
    front = puts h (rewritten (rec t h) 1 0) ∷ clear_texts r b

    front-is : front ≡ emptying t h
    unfolding emptying
    front-is = ap (λ (ss : List Store). puts h (rewritten (rec t h) 1 0) ∷ ss) (rw (p, q, o) (sym (texts-cleared t h f.sized old-few)))

    sized-empty : sized (emptied t h) ≡ true
    sized-empty = rw (length_run t (emptying t h)) f.sized

    all-is : front ++ onward (run t front) ≡ rewriting t h text
    unfolding rewriting
    all-is =
        ap (λ (ss : List Store). ss ++ onward (run t ss)) front-is
        ∙ rw (← texts-laid (emptied t h) h text sized-empty few) (sym (append_assoc (emptying t h) (laying (emptied t h) h text) _))

    all-length : b + blocks (length text) + 2 ≡ length (front ++ onward (run t front))
    all-length =
        sym (length-append front (onward (run t front))
        ∙ omega (
          arith,
          clear-texts-length r b,
          length-append (laid (run t front)) (puts h (rewritten (rec t h) 0 (length text)) ∷ []),
          text-stores-length h (free_rooms (run t front) (blocks (length text))) 0 text,
        ))

    -- four stages
    pub rewrites : (marked unmarked free a c d v : List ℕ) (left i j m e : ℕ)
        → marked ≡ rewritten (padded 32 (rec t h)) 1 0 → unmarked ≡ rewritten (padded 32 (rec t h)) 0 (length text)
        → Made t a left i (puts h marked ∷ []) → Made a c i j (clear_texts r b) → free ≡ free_rooms c (blocks (length text))
        → Made c d j m (text_stores h free 0 text) → Made d v m e (puts h unmarked ∷ [])
        → Tried t left (rewriting t h text) (b + blocks (length text) + 2) v
    rewrites marked unmarked free a c d v left i j m e x y w z g u s =
        let first : Made t a left i (puts h (rewritten (rec t h) 1 0) ∷ []) = rw (x, whole-there t h l) at w in
        let last : Made d v m e (puts h (rewritten (rec t h) 0 (length text)) ∷ []) = rw (y, whole-there t h l) at s in
        let made : Made t v left e (front ++ onward (run t front)) =
        made-onto t c v left j e front onward (made-both t a c left i j _ (clear_texts r b) first z)
        (made-both c d v j m e (laid c) _ (rw g at u) last) in
        record { number = all-length ∙ ap length all-is; table = made.table ∙ rw all-is }

-- at most two of the heading, a thousand of the old text and a thousand of the new
pub rewrite-few : (t : List ℕ) (h : ℕ) (text : List ℕ) → Fit t → h < rooms t → byte (rec t h) 0 ≡ 1 → length text ≤ 24000
    → length (rewriting t h text) ≤ 2002
rewrite-few t h text f l k few =
    omega (arith, old-few t h text f l k few, all-length t h text f l k few _ _ _ refl refl refl, ap length (all-is t h text f l k few _ _ _ refl refl refl))

-- ---- the checks

module _ (t text : List ℕ) (place : Place) (k : ℕ) (f : State) where
  abbrev file-at : ℕ
  file-at = file t (meant f)

  abbrev shut : Check
  shut = write_inhibited place (meant f)

  abbrev wrong : Check
  wrong = not_simple place t (meant f)

  abbrev short : Check
  short = no_room_for t file-at text

  abbrev long : Check
  long = is_long place t (meant f)

  pub rewrite-shut : no_write f.code.0 ≡ true → Did t k (rewrite_at t text place (meant f)) (shown (plain 14 place 0 0)) t
  rewrite-shut a = did-refused t k _ _ (first_holds shut _ a)

  module _ (a : no_write f.code.0 ≡ false) (h : ℕ) (x : h ≡ file-at) where
    pub rewrite-wrong : not (simple (rec t h)) ≡ true → Did t k (rewrite_at t text place (meant f)) (shown (plain 15 place 0 0)) t
    rewrite-wrong b = did-refused t k _ _ (second_holds shut wrong _ a (rw (← x) b))

    module _ (b : not (simple (rec t h)) ≡ false) where
      two-pass : (cs : List Check) → verdict (shut ∷ wrong ∷ cs) ≡ verdict cs
      two-pass cs = first_passes shut (wrong ∷ cs) a ∙ first_passes wrong cs (rw (← x) b)

      pub rewrite-short : (no_room_for t h text).when ≡ true → Did t k (rewrite_at t text place (meant f)) (shown (plain 19 (whole 0) 0 0)) t
      rewrite-short c = did-refused t k _ _ (two-pass _ ∙ first_holds short _ (rw (← x) c))

      module _ (c : (no_room_for t h text).when ≡ false) where
        three-pass : (cs : List Check) → verdict (shut ∷ wrong ∷ short ∷ cs) ≡ verdict cs
        three-pass cs = two-pass (short ∷ cs) ∙ first_passes short cs (rw (← x) c)

        pub rewrite-long : eqb (lifetime (rec t h)) 2 ≡ true → Did t k (rewrite_at t text place (meant f)) (shown (plain 24 place 0 0)) t
        rewrite-long d = did-refused t k _ _ (three-pass _ ∙ first_holds long [] (rw (← x) d))

        pub rewrite-laid : eqb (lifetime (rec t h)) 2 ≡ false → (n : ℕ) (v : List ℕ) → Tried t k (rewriting t h text) n v
            → Did t k (rewrite_at t text place (meant f)) (shown (stored n k false)) v
        rewrite-laid d n v w =
            did-tried t v k n _ (three-pass _ ∙ first_passes long [] (rw (← x) d) ∙ none_left) refl (rw x at w)
