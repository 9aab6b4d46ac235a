-- A part is a stretch of one text, so parts that follow one another are that text, cut and joined again. What an RDS asks of its name is
-- the same for every part: once it was answered 0, it is for each part that starts within the text and fits the buffer.
use mathlib.Core.Bool.{true, false, cond}
use mathlib.Core.List.{List, [], ◌∷◌, ◌++◌}
use mathlib.Core.Path.{◌≡◌, refl, sym, ap, ◌∙◌}
use Prim.Native.Nat.{ℕ, ◌+◌, ◌*◌, ◌/◌, ◌%◌, ◌≤◌, ◌<◌}
use native.Mathlib.Omega.{arith}
use lib.ListN.{length, take, drop, take-append-drop, drop_of_length-le}
use lib.Seq.{take_all, take-length, take-append_seam, drop-drop}
use lib.Dec.{eqb}
use borrow.Author.Tests.{le-ltb, le-leb, ltb-false, not-false}
use Rattle.paper.specs.Record.{marked, simple}
use Rattle.paper.specs.Layout.{boxed}
use Rattle.paper.specs.Table.{rec, sized}
use Rattle.paper.specs.Declaration.{Part, given, not_given, or_else}
use Rattle.paper.specs.Name.{same, all, counting}
use Rattle.paper.specs.Octal.{number, in_octal, digits, octal}
use Rattle.paper.specs.Line.{Word, words, word, legal_line}
use Rattle.paper.specs.Check.{whole, Check, Verdict, passed, refused, verdict}
use Rattle.paper.specs.Request.{Begin, rds, request, counted, octal_at, read_rds, read_function, read, asked}
use Rattle.paper.specs.Code.{no_read}
use Rattle.paper.specs.Sound.{sound}
use Rattle.paper.specs.Walk.{State, start, file, End, arrived, astray, ended}
use Rattle.paper.specs.Block.{file_text}
use Rattle.paper.specs.Store.{run}
use Rattle.paper.specs.Effect.{Plan, plan, inward, chain_of, end_of, list_of, begun, read_inhibited, not_simple, too_short, is_marked, beyond_end, part, rds_plan}
use Rattle.paper.specs.Answer.{Outcome, granting, ran, single, granted, entrance, admitted, requested}
use Rattle.laws.proofs.Tests.{clash}
use Rattle.laws.proofs.Lists.{Every}
use Rattle.demands.proofs.Request.Fair.{Idle, fair-some, verdict-idle}
use Rattle.demands.proofs.Request.Chains.{names_at}
use Rattle.demands.proofs.Request.Ended.{Passed, ran-by}
use Rattle.demands.proofs.Request.Course.{Course, untried, tried, course, admits}
use Rattle.demands.proofs.Answered.Numbered.{fair-refused, fair-rds_plan}

-- ---- parts of a text

-- "a dash or nothing means 0 and to the end"
pub part-whole : (s : List ℕ) → part s not_given not_given ≡ s
unfolding part
part-whole s = take-length s

-- a part, and what follows it
pub part-next : (s : List ℕ) (first count : Part) → part s first count ++ drop (or_else first 0 + or_else count (length s)) s ≡ drop (or_else first 0) s
unfolding part
part-next s first count = rw (← drop-drop (or_else count (length s)) (or_else first 0) s) (take-append-drop (or_else count (length s)) (drop (or_else first 0) s))

-- "20 and 28 never meet": beyond the end there is nothing to write
pub beyond-empty : (s : List ℕ) (first count : Part) → length s ≤ or_else first 0 → part s first count ≡ []
unfolding part
beyond-empty s first count l = rw (drop_of_length-le s l) (take_all (or_else count (length s)) [] (omega arith))

-- ---- every byte of a text can be asked for

in-octal : (x : ℕ) → x < 8 → in_octal (48 + x) ≡ true
in-octal x l = rw (le-leb 48 (48 + x) (omega arith), le-leb (48 + x) 55 (omega arith))

six-digits : (a b c d e f : ℕ) → a < 8 → b < 8 → c < 8 → d < 8 → e < 8 → f < 8
    → digits ((48 + a) ∷ (48 + b) ∷ (48 + c) ∷ (48 + d) ∷ (48 + e) ∷ (48 + f) ∷ [])
    ≡ number (given (a * 32768 + b * 4096 + c * 512 + d * 64 + e * 8 + f))
unfolding digits all counting
six-digits a b c d e f i j k l m n =
    rw (in-octal a i, in-octal b j, in-octal c k, in-octal d l, in-octal e m, in-octal f n) (ap (λ x. number (given x)) (omega arith))

eighths : (n : ℕ) → n ≡ n / 8 * 8 + n % 8
eighths n = omega arith

below-eight : (n : ℕ) → n % 8 < 8
below-eight n = omega arith

six-join : (n a b c d e p q r s t : ℕ) → n ≡ a * 8 + p → a ≡ b * 8 + q → b ≡ c * 8 + r → c ≡ d * 8 + s → d ≡ e * 8 + t
    → e * 32768 + t * 4096 + s * 512 + r * 64 + q * 8 + p ≡ n
six-join n a b c d e p q r s t g h i j k = omega arith

six-few : (n a b c d e p q r s t : ℕ) → n ≡ a * 8 + p → a ≡ b * 8 + q → b ≡ c * 8 + r → c ≡ d * 8 + s → d ≡ e * 8 + t → n < 262144 → e < 8
six-few n a b c d e p q r s t g h i j k l = omega arith

-- "at most six digits": for each number below 262,144, and so for any place in a text, there are digits that are read as it
pub octal-asked : (n : ℕ) → n < 262144 → (w : List ℕ) × (digits w ≡ number (given n))
octal-asked n l =
    let a : ℕ = n / 8 in
    let b : ℕ = a / 8 in
    let c : ℕ = b / 8 in
    let d : ℕ = c / 8 in
    let e : ℕ = d / 8 in
    let few : e < 8 = six-few n a b c d e (n % 8) (a % 8) (b % 8) (c % 8) (d % 8) (eighths n) (eighths a) (eighths b) (eighths c) (eighths d) l in
    let sum = six-join n a b c d e (n % 8) (a % 8) (b % 8) (c % 8) (d % 8) (eighths n) (eighths a) (eighths b) (eighths c) (eighths d) in (
      (48 + e) ∷ (48 + d % 8) ∷ (48 + c % 8) ∷ (48 + b % 8) ∷ (48 + a % 8) ∷ (48 + n % 8) ∷ [],
      six-digits e (d % 8) (c % 8) (b % 8) (a % 8) (n % 8) few (below-eight d) (below-eight c) (below-eight b) (below-eight a) (below-eight n)
          ∙ ap (λ x. number (given x)) sum,
    )

-- ---- one RDS

-- the file that a name comes to is simple, may be read and is not marked
pub record Readable (t : List ℕ) (u : ℕ) (name : Word) : Type 0 where
  pub directory : State
  pub end : State
  pub walk : ended boxed t (start u) (chain_of name) ≡ arrived directory end
  pub reads : no_read end.code ≡ false
  pub simple : simple (rec t (file t end)) ≡ true
  pub unmarked : marked (rec t (file t end)) ≡ false

abbrev pub text_of : (t : List ℕ) (u : ℕ) (name : Word) → Readable t u name → List ℕ
text_of t u name r = file_text t (file t r.end)

-- the part starts within the text, and fits the buffer
pub record Holds (s reply : List ℕ) (first count : Part) : Type 0 where
  pub within : or_else first 0 ≤ length s
  pub fits : length (part s first count) ≤ length reply

-- the outcome of an RDS that brings these bytes: the table and the rest of the buffer stay
abbrev pub bringing : (t s reply : List ℕ) → Outcome
bringing t s reply = record { answer = granting false (length s) 0; table = t; reply = s ++ drop (length s) reply }

-- such a part is brought
rds-brings : (t : List ℕ) (u : ℕ) (reply : List ℕ) (k : ℕ) (name : Word) (first count : Part) (r : Readable t u name)
    → Holds (text_of t u name r) reply first count
    → single t reply k (ran k (rds_plan boxed t u reply name first count)) ≡ bringing t (part (text_of t u name r) first count) reply
unfolding rds_plan verdict run
rds-brings t u reply k name first count r h =
    rw (r.walk, r.reads, r.simple, le-ltb _ _ h.fits, r.unmarked, le-ltb _ _ h.within, le-leb 0 k (omega arith))

-- and only such a part
record Brought (t : List ℕ) (u : ℕ) (reply : List ℕ) (name : Word) (first count : Part) : Type 0 where
  pub readable : Readable t u name
  pub holds : Holds (text_of t u name readable) reply first count

plan-brought : (t : List ℕ) (u : ℕ) (reply : List ℕ) (name : Word) (first count : Part) (p : Plan) → Passed (rds_plan boxed t u reply name first count) p
    → Brought t u reply name first count
unfolding rds_plan
plan-brought t u reply name first count p v = go (ended boxed t (start u) (chain_of name)) refl v
  where
    checks : State → List Check
    checks f =
        read_inhibited (end_of 1 name) f
        ∷ not_simple (end_of 1 name) t f
        ∷ too_short (part (file_text t (file t f)) first count) reply
        ∷ is_marked (end_of 1 name) t f
        ∷ beyond_end (whole 2) first (file_text t (file t f))
        ∷ []

    shown : State → Plan
    shown f = record { checks = checks f; stores = []; displaced = false; reply = part (file_text t (file t f)) first count }

    go : (x : End) → ended boxed t (start u) (chain_of name) ≡ x → Passed (inward 1 x (λ _ f. plan (shown f))) p → Brought t u reply name first count
    go (astray n link) e h = let z = h.plan in clash (cc)
    go (arrived d f) e h =
        let q = h.plan in
        let c : shown f ≡ p = cc in
        let i : Every Idle (checks f) = verdict-idle (checks f) (rw (← c) at h.checks) in
        record {
          readable = record { directory = d; end = f; walk = e; reads = i.0; simple = not-false _ i.1.0; unmarked = i.1.1.1.0 };
          holds = record { within = ltb-false _ _ i.1.1.1.1.0; fits = ltb-false _ _ i.1.1.0 };
        }

rds-brought : (t : List ℕ) (u : ℕ) (reply : List ℕ) (k : ℕ) (name : Word) (first count : Part)
    → (single t reply k (ran k (rds_plan boxed t u reply name first count))).answer.number ≡ 0 → Brought t u reply name first count
rds-brought t u reply k name first count =
    ran-by (λ x. (single t reply k x).answer.number ≡ 0 → Brought t u reply name first count) k (rds_plan boxed t u reply name first count)
    (λ f v n.
    let names : ℕ → List (List ℕ) = λ a. cond (eqb a 1) name.names [] in
    let fair = fair-rds_plan names t reply u name first count (record { from = omega arith; long = refl }) refl in
    let g = fair-refused names reply (rds_plan boxed t u reply name first count) f fair v in
    let z : ⊥ = omega (arith, fair-some names f g, n) in absurd z)
    (λ p v _ _. plan-brought t u reply name first count p v)
    (λ p v _ n. let z : ⊥ = omega arith in absurd z)

-- ---- requests

-- an RDS of this name was answered 0, and what the entrance and the walk let through once they let through again
pub record Granted (t : List ℕ) (u : ℕ) (from : Begin) (name : Word) : Type 0 where
  pub sized : sized t ≡ true
  pub sound : sound boxed t ≡ true
  pub user : u ≤ 999999
  pub readable : Readable t (list_of u from) (begun from name)

abbrev pub granted_text : (t : List ℕ) (u : ℕ) (from : Begin) (name : Word) → Granted t u from name → List ℕ
granted_text t u from name g = text_of t (list_of u from) (begun from name) g.readable

module _ (t line text reply : List ℕ) (u k : ℕ) (from : Begin) (name : Word) (first count : Part)
    (asks : asked line text ≡ request (rds from name first count)) where
  -- whatever part was asked for: any part that starts within the text and fits is brought, and nothing else
  pub part-read : (g : Granted t u from name) → Holds (granted_text t u from name g) reply first count
      → requested boxed t line text reply u k ≡ bringing t (part (granted_text t u from name g) first count) reply
  unfolding granted
  part-read g h =
      admits t line text reply u k (rds from name first count) g.sized g.sound g.user asks
      ∙ rds-brings t (list_of u from) reply k (begun from name) first count g.readable h

  -- answered 0: the part asked for, of the text of the one file that the name comes to
  pub part-shown : (requested boxed t line text reply u k).answer.number ≡ 0
      → (g : Granted t u from name) × Holds (granted_text t u from name g) reply first count
      × (requested boxed t line text reply u k ≡ bringing t (part (granted_text t u from name g) first count) reply)
  unfolding granted
  part-shown n = go (course t line text reply u)
    where
      go : Course t line text reply u
          → (g : Granted t u from name) × Holds (granted_text t u from name g) reply first count
          × (requested boxed t line text reply u k ≡ bringing t (part (granted_text t u from name g) first count) reply)
      go (untried f h e) = let m : f.number ≡ 0 = rw (e k) at n in let z : ⊥ = omega (arith, fair-some (names_at line) f h) in absurd z
      go (tried r a e) =
          let q : r ≡ rds from name first count = request-same (sym a.asked ∙ asks) in
          let b = rds-brought t (list_of u from) reply k (begun from name) first count (rw (e k, q) at n) in
          let g : Granted t u from name = record { sized = a.sized; sound = a.sound; user = a.user; readable = b.readable } in
          (g, b.holds, part-read g b.holds)
        where
          request-same : request r ≡ request (rds from name first count) → r ≡ rds from name first count
          request-same p = cc

-- ---- "The parts of a text, joined in order, are the text."

-- an RDS of a part: its line, the text and the buffer lent with it, and its stop number
pub record Piece (from : Begin) (name : Word) : Type 0 where
  pub line : List ℕ
  pub text : List ℕ
  pub buffer : List ℕ
  pub stop : ℕ
  pub first : Part
  pub count : Part
  pub asks : asked line text ≡ request (rds from name first count)

-- what an outcome wrote to the front of the buffer
abbrev pub written : Outcome → List ℕ
written o = take o.answer.bytes o.reply

module _ (t : List ℕ) (u : ℕ) (from : Begin) (name : Word) where
  abbrev pub answer_to : Piece from name → Outcome
  answer_to x = requested boxed t x.line x.text x.buffer u x.stop

  -- what the pieces wrote, one after another
  unfoldable pub joined : List (Piece from name) → List ℕ
  joined [] = []
  joined (x ∷ xs) = written (answer_to x) ++ joined xs

  -- pieces of a text s from byte a on: each begins where the one before it ended and fits its buffer, and the last reaches the end
  unfoldable pub Following : List ℕ → ℕ → List (Piece from name) → Type 0
  Following s a [] = length s ≤ a
  Following s a (x ∷ xs) =
      (or_else x.first 0 ≡ a) × Holds s x.buffer x.first x.count × Following s (a + or_else x.count (length s)) xs

  pieces-join : (g : Granted t u from name) (a : ℕ) (xs : List (Piece from name)) → Following (granted_text t u from name g) a xs
      → joined xs ≡ drop a (granted_text t u from name g)
  unfolding joined Following
  pieces-join g a [] h = sym (drop_of_length-le (granted_text t u from name g) h)
  pieces-join g a (x ∷ xs) h =
      let s : List ℕ = granted_text t u from name g in
      let p = part-read t x.line x.text x.buffer u x.stop from name x.first x.count x.asks g h.1 in
      let w : written (answer_to x) ≡ part s x.first x.count =
      rw p (take-append_seam (part s x.first x.count) (drop (length (part s x.first x.count)) x.buffer)) in
      let r = pieces-join g (a + or_else x.count (length s)) xs h.2 in
      rw (w, r, ← h.0) (part-next s x.first x.count)

  -- each piece is answered 0, and the table stays
  pieces-granted : (g : Granted t u from name) (a : ℕ) (xs : List (Piece from name)) → Following (granted_text t u from name g) a xs
      → Every (λ x. ((answer_to x).answer.number ≡ 0) × ((answer_to x).table ≡ t)) xs
  unfolding Following
  pieces-granted g a [] h = tt
  pieces-granted g a (x ∷ xs) h =
      let p = part-read t x.line x.text x.buffer u x.stop from name x.first x.count x.asks g h.1 in
      ((rw p, rw p), pieces-granted g (a + or_else x.count (length (granted_text t u from name g))) xs h.2)

  -- for any cutting points: the whole was read, so each piece is, and joined in order they are the whole
  pub parts_join : (line text reply : List ℕ) (k : ℕ) → asked line text ≡ request (rds from name not_given not_given)
      → (requested boxed t line text reply u k).answer.number ≡ 0
      → (xs : List (Piece from name)) → Following (written (requested boxed t line text reply u k)) 0 xs
      → Every (λ x. ((answer_to x).answer.number ≡ 0) × ((answer_to x).table ≡ t)) xs × (joined xs ≡ written (requested boxed t line text reply u k))
  parts_join line text reply k asks n xs h =
      let p = part-shown t line text reply u k from name not_given not_given asks n in
      let s : List ℕ = granted_text t u from name p.0 in
      let w : written (requested boxed t line text reply u k) ≡ s =
      rw (p.2, part-whole s) (take-append_seam s (drop (length s) reply)) in
      let f : Following s 0 xs = rw w at h in
      (pieces-granted p.0 0 xs f, rw w (pieces-join p.0 0 xs f))

-- ---- "a dash or nothing": `RDS name` is `RDS name - -`

abbrev pub rds_word : ℕ → Word
rds_word i = record { start = i; names = (82 ∷ 68 ∷ 83 ∷ []) ∷ [] }

abbrev pub dash_word : ℕ → Word
dash_word i = record { start = i; names = (45 ∷ []) ∷ [] }

dashes-read : (line dashed : List ℕ) (i j a b : ℕ) (w : Word) → legal_line line ≡ true → legal_line dashed ≡ true
    → words line ≡ rds_word i ∷ w ∷ [] → words dashed ≡ rds_word j ∷ w ∷ dash_word a ∷ dash_word b ∷ [] → read dashed ≡ read line
unfolding read read_function read_rds counted word octal_at octal same
dashes-read line dashed i j a b w l m e f = rw (l, m, e, f)

pub dashes-whole : (t line dashed text reply : List ℕ) (u k i j a b : ℕ) (w : Word) → legal_line line ≡ true → legal_line dashed ≡ true
    → words line ≡ rds_word i ∷ w ∷ [] → words dashed ≡ rds_word j ∷ w ∷ dash_word a ∷ dash_word b ∷ []
    → requested boxed t dashed text reply u k ≡ requested boxed t line text reply u k
unfolding requested asked
dashes-whole t line dashed text reply u k i j a b w l m e f = go (entrance boxed t u)
  where
    go : (v : Verdict) → admitted boxed t dashed text reply u k v ≡ admitted boxed t line text reply u k v
    go passed = rw (dashes-read line dashed i j a b w l m e f)
    go (refused x) = refl
