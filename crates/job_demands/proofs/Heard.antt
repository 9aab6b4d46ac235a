-- Reading a line by the names of its words: the function is the first word, and what is read passed every check of that function.
-- So the count of the words, the declaration and the name are known from the names alone, wherever the words start.
use mathlib.Core.Bool.{Bool, true, false, ◌||◌, cond}
use mathlib.Core.List.{List, [], ◌∷◌, nil≢cons, tail-eq_of_cons-eq}
use mathlib.Core.Path.{◌≡◌, refl, sym, ap, ◌∙◌}
use Prim.Native.Nat.{ℕ, ◌-◌, ◌≤◌}
use native.Mathlib.Omega.{arith}
use lib.ListN.{length, get_or}
use lib.Dec.{leb}
use borrow.Author.Tests.{leb-true, lt-ltb, not-false}
use Rattle.paper.specs.Name.{same, well_formed, legal_base, base_name}
use Rattle.paper.specs.Declaration.{Declared, right, wrong, wrs_lifetime, not_given, declared, declaration, lifetime_at, point_at, type_letter, lifetime_letter, fits, fit_wrs}
use Rattle.paper.specs.Line.{Word, words, word, legal_line}
use Rattle.paper.specs.Check.{whole, refusal_at, Check, Verdict, passed, refused, verdict}
use Rattle.paper.specs.Request.{Request, own, wrs, rds, Read, request, unread, read_as, after, needed, counted, miscounted, misnamed, declared_at, octal_at, read_wrs, read_rds, read_function, read, text_too_long, with_text, asked}
use Rattle.laws.proofs.Tests.{clash, and_parts}
use Rattle.laws.proofs.Lists.{Every}
use Rattle.demands.proofs.Request.Fair.{Idle, verdict-idle}
use Rattle.demands.proofs.Request.Begun.{legal-own}
use Rattle.job_demands.proofs.Bare.{names_of, spoken, spoken-count, spoken-word}

-- ---- before the words

-- a line is read, whatever text is lent with it
pub asked-read : (line text : List ℕ) (r : Request) → asked line text ≡ request r → read line ≡ request r
unfolding asked verdict
asked-read line text r e = go (read line) e
  where
    by : (q : Request) (b : Bool) → read_as q (cond b (refused (refusal_at 10 (whole 0))) passed) ≡ request r → request q ≡ request r
    by q true f = clash (cc)
    by q false f = f

    go : (x : Read) → with_text text x ≡ request r → x ≡ request r
    go (request q) f = by q (text_too_long q text) f
    go (unread f) g = clash (cc)

pub read_by : (line : List ℕ) (r : Request) → read line ≡ request r → (legal_line line ≡ true) × (read_function line ≡ request r)
unfolding read
read_by line r e = go (legal_line line) e
  where
    go : (b : Bool) → cond b (read_function line) (unread (refusal_at 4 (whole 0))) ≡ request r
        → (b ≡ true) × (read_function line ≡ request r)
    go true f = (refl, f)
    go false f = clash (cc)

pub read_as_lem : (q r : Request) (cs : List Check) → read_as q (verdict cs) ≡ request r → (r ≡ q) × Every Idle cs
read_as_lem q r cs e = go (verdict cs) refl e
  where
    go : (v : Verdict) → verdict cs ≡ v → read_as q v ≡ request r → (r ≡ q) × Every Idle cs
    go passed p f = (cc, verdict-idle cs p)
    go (refused x) p f = clash (cc)

-- ---- by the words

counted_words : (least most : ℕ) (line : List ℕ) → Idle (miscounted least most line)
    → (least ≤ length (spoken line) - 1) × (length (spoken line) - 1 ≤ most)
unfolding counted
counted_words least most line e =
    let f = and_parts (leb least (length (words line) - 1)) _ (not-false (counted least most line) e) in
    (rw (← spoken-count line) (leb-true _ _ f.0), rw (← spoken-count line) (leb-true _ _ f.1))

-- the function is the first word, if that is one name
pub word-is : (line : List ℕ) (k : ℕ) (n : List (List ℕ)) → get_or (spoken line) k ([] ∷ []) ≡ n → (word line k).names ≡ n
word-is line k n e = spoken-word line k ∙ e

pub function-wrs : (line : List ℕ) (ws : List (List (List ℕ))) → spoken line ≡ ((87 ∷ 82 ∷ 83 ∷ []) ∷ []) ∷ ws → read_function line ≡ read_wrs line
unfolding read_function same
function-wrs line ws e = rw (word-is line 0 _ (ap (λ l. get_or l 0 ([] ∷ [])) e))

pub function-rds : (line : List ℕ) (ws : List (List (List ℕ))) → spoken line ≡ ((82 ∷ 68 ∷ 83 ∷ []) ∷ []) ∷ ws → read_function line ≡ read_rds line
unfolding read_function same
function-rds line ws e = rw (word-is line 0 _ (ap (λ l. get_or l 0 ([] ∷ [])) e))

pub function-none : (line n m : List ℕ) (ns : List (List ℕ)) (ws : List (List (List ℕ))) → spoken line ≡ (n ∷ m ∷ ns) ∷ ws
    → read_function line ≡ unread (refusal_at 5 (whole 0))
unfolding read_function
function-none line n m ns ws e = rw (word-is line 0 _ (ap (λ l. get_or l 0 ([] ∷ [])) e))

declared-second : (line : List ℕ) (a d : List (List ℕ)) (ws : List (List (List ℕ))) → spoken line ≡ a ∷ d ∷ ws → declared_at line 1 ≡ declared d
unfolding declared_at
declared-second line a d ws e =
    rw (word-is line 1 d (ap (λ l. get_or l 1 ([] ∷ [])) e), lt-ltb 1 (length (words line)) (rw (spoken-count line, e) (omega arith)))

-- what a WRS that is read is, by its declaration; `M` alone gives the lifetime 1
pub record Heard (line : List ℕ) (d : List (List ℕ)) (ws : List (List (List ℕ))) (r : Request) : Type 0 where
  pub count : length ws ≡ 1
  pub fit : fits fit_wrs (declared d) ≡ true
  pub medium : d ≡ (77 ∷ []) ∷ [] → r ≡ wrs 1 not_given not_given (word line 2)

after-by : (cs : List Check) (x : Read) (r : Request) → after (verdict cs) x ≡ request r → Every Idle cs × (x ≡ request r)
after-by cs x r e = go (verdict cs) refl e
  where
    go : (v : Verdict) → verdict cs ≡ v → after v x ≡ request r → Every Idle cs × (x ≡ request r)
    go passed p f = (verdict-idle cs p, f)
    go (refused y) p f = clash (cc)

needs-fit : (place : ℕ) (d : Declared) (f : ℕ → Request) (r : Request) → needed place (wrs_lifetime d) f ≡ request r → fits fit_wrs d ≡ true
needs-fit place (right p) f r e = go (fit_wrs p) e
  where
    go : (b : Bool) → needed place (cond b p.lifetime not_given) f ≡ request r → b ≡ true
    go true q = refl
    go false q = clash (cc)
needs-fit place wrong f r e = clash (cc)

pub heard : (line : List ℕ) (a d : List (List ℕ)) (ws : List (List (List ℕ))) (r : Request) → spoken line ≡ a ∷ d ∷ ws → read_wrs line ≡ request r
    → Heard line d ws r
unfolding read_wrs declared declaration lifetime_at point_at type_letter lifetime_letter same
heard line a d ws r e f =
    let q = declared-second line a d ws e in
    let x = after-by (miscounted 2 2 line ∷ misnamed 2 3 line) _ r f in
    let c = counted_words 2 2 line x.0.0 in
    let n = ap length e in
    let y = rw q at x.1 in
    record {
      count = omega arith;
      fit = needs-fit 1 (declared d) _ r y;
      medium = λ m. let z = rw m at y in cc;
    }

-- a name that passes the checks of one function passes those of RDS, from one's own base list, and is read whole
pub rds-passes : (line : List ℕ) (a n : List (List ℕ)) → names_of (words line) ≡ a ∷ n ∷ [] → well_formed n ≡ true → legal_base (base_name n) ≡ true
    → read_rds line ≡ request (rds own (word line 1) not_given not_given)
unfolding read_rds counted word octal_at verdict
rds-passes line a n e f l = go (words line) refl e
  where
    or_right : (b : Bool) → (b || true) ≡ true
    or_right true = refl
    or_right false = refl

    go : (ws : List Word) → words line ≡ ws → names_of ws ≡ a ∷ n ∷ [] → read_rds line ≡ request (rds own (word line 1) not_given not_given)
    go [] q p = absurd (nil≢cons p)
    go (v ∷ []) q p = absurd (nil≢cons (tail-eq_of_cons-eq p))
    go (v ∷ w ∷ []) q p = let g : w.names ≡ n = cc in rw (q, legal-own w (rw g l), g, f, l, or_right)
    go (v ∷ w ∷ x ∷ ws) q p = absurd (nil≢cons (sym (tail-eq_of_cons-eq (tail-eq_of_cons-eq p))))
