-- What is held after an answer, a byte, the end of a line: each shows what the definition makes of the box that was shown before.
use mathlib.Core.Bool.{Bool, true, false, ◌&&◌, ◌||◌, not, cond}
use mathlib.Core.Logic.{◌⊎◌, inl, inr}
use mathlib.Core.List.{List, [], ◌∷◌, ◌++◌}
use mathlib.Core.Path.{◌≡◌, refl, sym, ap, ◌∙◌}
use Prim.Native.Nat.{ℕ, ◌+◌, ◌≤◌, ◌<◌}
use native.Mathlib.Omega.{arith}
use native.Mathlib.Numerals.{add-one}
use lib.Dec.{eqb, ltb}
use lib.ListN.{length, take, set, get_or, length-take}
use lib.Seq.{take-suc}
use borrow.Author.Tests.{lt-ltb, le-ltb}
use Rattle.laws.proofs.Tests.{and-no-right, or_right}
use Rattle.paper.specs.Index.{Kept, keeping}
use Rattle.answers.specs.Shown.{shown}
use Rattle.answers.specs.Promised.{Keeps}
use Rattle.answers.specs.declared.Answer.{Answer}
use Rattle.filebox.specs.FirstWord.{after, stages, takes}
use Rattle.filebox.specs.Box.{Box, between, kept, outcome, answered, grown, takes_text, ended, stepped, fed, finished}
use Rattle.filebox.specs.Shows.{Shows, Follows, Came, Over, fresh}
use Rattle.filebox.specs.Spelled.{Line, Asks}
use Rattle.filebox.specs.declared.held.Held.{Held}
use Rattle.filebox.specs.declared.output.Answered.{Answered}
use Rattle.filebox.specs.declared.first_word.Stage.TheVariants.{Blanks}
use Rattle.filebox.proofs.FirstWord.{first_word, stages-more}
use Rattle.demands.proofs.Long.{requested-cut}
use Rattle.filebox.proofs.Keeping.{keeps, holds-none}

module _ (t d l m r : List ℕ) (h : Held) where
  -- the request that is made is the box's
  made : (x : Box) → Shows x t d l m r h → keeping t d (take h.line l) (take h.text m) r 1 65535 ≡ kept x
  unfolding kept keeping
  made x s =
      rw (s.line.bytes, s.text.bytes, s.table, s.index, s.reply, requested-cut x.table x.line x.text x.reply 1 65535)

  pub request-tells : {a b : List ℕ} → a ≡ take h.line l → b ≡ take h.text m → {v : Answer} {t' d' r' : List ℕ}
      → Keeps (keeping t d a b r 1 65535) v t' d' r'
      → {o : List ℕ} {w : Answered} → Line v (take w.line o) → w.reply ≡ v.bytes → Asks t d l m r h t' d' r' o w
  request-tells {a} {b} e f {v} p n k =
      record {
        tells =
            λ x s.
            record {
              table = p.promised.table ∙ ap (λ (o : Kept). o.outcome.table) (same x s);
              index = p.index ∙ ap (λ (o : Kept). o.index) (same x s);
              reply = p.promised.reply ∙ ap (λ (o : Kept). o.outcome.reply) (same x s);
              line = rw (is x s) at n;
              bytes = k ∙ ap (λ (y : Answer). y.bytes) (is x s);
            };
      }
    where
      same : (x : Box) → Shows x t d l m r h → keeping t d a b r 1 65535 ≡ kept x
      same x s = rw (e, f) (made x s)

      is : (x : Box) → Shows x t d l m r h → v ≡ shown (outcome x).answer
      is x s = p.promised.answer ∙ ap (λ (o : Kept). shown o.outcome.answer) (same x s)

  pub answer-shows : {t' d' r' o : List ℕ} {w : Answered} → Asks t d l m r h t' d' r' o w → (heard : Bool) {h' : Held} → h' ≡ fresh heard
      → Follows answered t d l m r h t' d' l m r' h'
  unfolding answered between stages
  answer-shows q heard g =
      record {
        shows =
            λ x s.
            rw g (record {
              table = (q.tells x s).table;
              index = (q.tells x s).index;
              reply = (q.tells x s).reply;
              line = holds-none 257 l s.line.room;
              stage = refl;
              asked = refl;
              text = holds-none 24001 m s.text.room;
            });
      }

  -- a byte of a text
  pub text-follows : (b : ℕ) → h.asked ≡ true → (h' : Held) → h'.line ≡ h.line → h'.stage ≡ h.stage → h'.asked ≡ true
      → h'.text ≡ cond (ltb h.text (length m)) (h.text + 1) h.text → Follows (λ x. grown x b) t d l m r h t d l (set m h.text b) r h'
  unfolding grown
  text-follows b e h' p q g n =
      record {
        shows =
            λ x s.
            rw (sym s.asked ∙ e) (record {
              table = s.table;
              index = s.index;
              reply = s.reply;
              line = rw p s.line;
              stage = q ∙ s.stage;
              asked = g;
              text = rw n (keeps 24001 m h.text x.text b s.text);
            });
      }

  -- a byte of a line
  pub line-follows : (b : ℕ) → h.asked ≡ false → (h' : Held) → h'.line ≡ cond (ltb h.line (length l)) (h.line + 1) h.line
      → h'.stage ≡ after h.stage b → h'.asked ≡ false → h'.text ≡ h.text → Follows (λ x. grown x b) t d l m r h t d (set l h.line b) m r h'
  unfolding grown
  line-follows b e h' p q g n =
      record {
        shows =
            λ x s.
            rw (sym s.asked ∙ e) (record {
              table = s.table;
              index = s.index;
              reply = s.reply;
              line = rw p (keeps 257 l h.line x.line b s.line);
              stage = rw (stages-more Blanks x.line b, ← s.stage) q;
              asked = g;
              text = rw n s.text;
            });
      }

  -- a text ends, or a line that takes none
  pub answer-ends : (t' d' l' m' r' : List ℕ) (h' : Held) → (h.asked ≡ true) ⊎ (takes h.stage ≡ false)
      → Follows answered t d l m r h t' d' l' m' r' h' → Follows ended t d l m r h t' d' l' m' r' h'
  unfolding ended
  answer-ends t' d' l' m' r' h' e f = record { shows = λ x s. rw (test x s e) (f.shows x s) }
    where
      test : (x : Box) → Shows x t d l m r h → (h.asked ≡ true) ⊎ (takes h.stage ≡ false) → (not x.asked && takes_text x.line) ≡ false
      test x s (inl a) = rw (sym s.asked ∙ a)
      test x s (inr w) = and-no-right (not x.asked) (takes_text x.line) (sym (first_word x.line) ∙ rw (← s.stage) w)

  -- a line that takes a text ends
  pub text-asked : (h' : Held) → h.asked ≡ false → takes h.stage ≡ true → h'.line ≡ h.line → h'.stage ≡ h.stage
      → h'.asked ≡ true → h'.text ≡ h.text → Follows ended t d l m r h t d l m r h'
  unfolding ended
  text-asked h' a w p q g n =
      record {
        shows =
            λ x s.
            rw (test x s) (record {
              table = s.table;
              index = s.index;
              reply = s.reply;
              line = rw p s.line;
              stage = q ∙ s.stage;
              asked = g;
              text = rw n s.text;
            });
      }
    where
      test : (x : Box) → Shows x t d l m r h → (not x.asked && takes_text x.line) ≡ true
      test x s = rw (sym s.asked ∙ a, ← first_word x.line, ← s.stage) w

  -- a byte of the input
  pub end-steps : (b : ℕ) (t' d' l' m' r' : List ℕ) (h' : Held) → eqb b 10 ≡ true → Follows ended t d l m r h t' d' l' m' r' h'
      → Follows (λ x. stepped x b) t d l m r h t' d' l' m' r' h'
  unfolding stepped
  end-steps b t' d' l' m' r' h' e f = record { shows = λ x s. rw e (f.shows x s) }

  pub grow-steps : (b : ℕ) (t' d' l' m' r' : List ℕ) (h' : Held) → eqb b 10 ≡ false → Follows (λ x. grown x b) t d l m r h t' d' l' m' r' h'
      → Follows (λ x. stepped x b) t d l m r h t' d' l' m' r' h'
  unfolding stepped
  grow-steps b t' d' l' m' r' h' e f = record { shows = λ x s. rw e (f.shows x s) }

  -- the end of the input
  begun : (x : Box) → Shows x t d l m r h → 0 < h.line → 0 < length x.line
  begun x s p = omega (arith, s.line.count ∙ length-take 257 x.line)

  pub answer-finishes : (t' d' l' m' r' : List ℕ) (h' : Held) → (h.asked ≡ true) ⊎ (0 < h.line) → Follows answered t d l m r h t' d' l' m' r' h'
      → Follows finished t d l m r h t' d' l' m' r' h'
  unfolding finished
  answer-finishes t' d' l' m' r' h' e f = record { shows = λ x s. rw (test x s e) (f.shows x s) }
    where
      test : (x : Box) → Shows x t d l m r h → (h.asked ≡ true) ⊎ (0 < h.line) → (x.asked || ltb 0 (length x.line)) ≡ true
      test x s (inl a) = rw (sym s.asked ∙ a)
      test x s (inr p) = or_right x.asked (ltb 0 (length x.line)) (lt-ltb 0 (length x.line) (begun x s p))

  pub nothing-finishes : h.asked ≡ false → h.line ≤ 0 → Follows finished t d l m r h t d l m r h
  unfolding finished
  nothing-finishes a p = record { shows = λ x s. rw (test x s) s }
    where
      test : (x : Box) → Shows x t d l m r h → (x.asked || ltb 0 (length x.line)) ≡ false
      test x s = rw (sym s.asked ∙ a) (le-ltb 0 (length x.line) (omega (arith, s.line.count ∙ length-take 257 x.line)))

-- one byte of the input more
fed-more : (x : Box) (s : List ℕ) (b : ℕ) → fed x (s ++ b ∷ []) ≡ stepped (fed x s) b
unfolding fed
fed-more x [] b = refl
fed-more x (a ∷ s) b = fed-more (stepped x a) s b

pub feed-more : (input : List ℕ) (i : ℕ) (t d l m r : List ℕ) (h : Held) (t₁ d₁ l₁ m₁ r₁ : List ℕ) (h₁ : Held) (t₂ d₂ l₂ m₂ r₂ : List ℕ) (h₂ : Held)
    → i < length input → Follows (λ x. fed x (take i input)) t d l m r h t₁ d₁ l₁ m₁ r₁ h₁
    → Follows (λ x. stepped x (get_or input i 0)) t₁ d₁ l₁ m₁ r₁ h₁ t₂ d₂ l₂ m₂ r₂ h₂
    → Follows (λ x. fed x (take (i + 1) input)) t d l m r h t₂ d₂ l₂ m₂ r₂ h₂
feed-more input i t d l m r h t₁ d₁ l₁ m₁ r₁ h₁ t₂ d₂ l₂ m₂ r₂ h₂ n f g =
    record {
      shows =
          λ x s.
          rw (add-one, take-suc input i 0 n, fed-more x (take i input) (get_or input i 0)) (g.shows (fed x (take i input)) (f.shows x s));
    }

pub feed-none : (input t d l m r : List ℕ) (h : Held) → Follows (λ x. fed x (take 0 input)) t d l m r h t d l m r h
unfolding fed
feed-none input t d l m r h = record { shows = λ x s. s }

-- some input, and more of it
fed-append : (x : Box) (s u : List ℕ) → fed x (s ++ u) ≡ fed (fed x s) u
unfolding fed
fed-append x [] u = refl
fed-append x (b ∷ s) u = fed-append (stepped x b) s u

pub came-none : (t d l m r : List ℕ) (h : Held) (heard : Bool) → length l ≡ 257 → length m ≡ 24001 → h ≡ fresh heard → Came t d r t d l m r h
unfolding fed between stages
came-none t d l m r h heard p q e =
    rw e (record {
      input = [];
      shows = record { table = refl; index = refl; reply = refl; line = holds-none 257 l p; stage = refl; asked = refl; text = holds-none 24001 m q };
    })

pub came-more : (input t₀ d₀ r₀ t d l m r : List ℕ) (h : Held) (t' d' l' m' r' : List ℕ) (h' : Held)
    → Follows (λ y. fed y input) t d l m r h t' d' l' m' r' h' → Came t₀ d₀ r₀ t d l m r h → Came t₀ d₀ r₀ t' d' l' m' r' h'
came-more input t₀ d₀ r₀ t d l m r h t' d' l' m' r' h' f c =
    record {
      input = c.input ++ input;
      shows = rw (fed-append (between t₀ d₀ r₀) c.input input) (f.shows (fed (between t₀ d₀ r₀) c.input) c.shows);
    }

pub came-over : (t₀ d₀ r₀ t d l m r : List ℕ) (h : Held) (t' d' l' m' r' : List ℕ) (h' : Held) → Came t₀ d₀ r₀ t d l m r h
    → Follows finished t d l m r h t' d' l' m' r' h' → Over t₀ d₀ r₀ t' d' r'
came-over t₀ d₀ r₀ t d l m r h t' d' l' m' r' h' c f =
    let s = f.shows (fed (between t₀ d₀ r₀) c.input) c.shows in
    record { input = c.input; table = s.table; index = s.index; reply = s.reply }
