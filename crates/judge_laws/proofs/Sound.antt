-- The shape of a table from the clauses as the judge takes them: what the records show, headings named, text, twins, crowds.
-- Every clause of the paper is one of these, and twins are names borne twice once the records are right.
use mathlib.Core.Bool.{true, false, ◌&&◌}
use mathlib.Core.List.{List}
use mathlib.Core.Path.{◌≡◌, sym, ◌∙◌}
use Prim.Native.Nat.{ℕ}
use Rattle.judge_laws.specs.Shapes.{each_right}
use Rattle.judge_laws.specs.Twins.{no_twins}
use Rattle.paper.specs.Layout.{boxed}
use Rattle.paper.specs.Sound.{all_named, none_crowded, texts_whole, no_other_text, shaped}
use Rattle.judge_laws.proofs.Clauses.{each-view, each-made}
use Rattle.judge_laws.proofs.Literal.{twins-literal}
use Rattle.laws.proofs.Tests.{and_left, and_right, and_both, not-both, false-by, same_truth}
use Rattle.laws.proofs.Sound.{tested, untested}

module _ (t : List ℕ) where
  shaped-each : shaped boxed t ≡ true → each_right t ≡ true
  shaped-each e =
      let c = tested t e in
      each-made t (record {
        above = c.above;
        holders = c.holders;
        headings = c.headings;
        users = c.users;
        padded = c.padded;
        plain = c.plain;
        legal = c.legal;
      })

  -- a clause that fails
  pub shaped-not-each : each_right t ≡ false → shaped boxed t ≡ false
  shaped-not-each f = false-by (shaped boxed t) (λ e. not-both (shaped-each e) f)

  pub shaped-not-named : all_named t ≡ false → shaped boxed t ≡ false
  shaped-not-named f = false-by (shaped boxed t) (λ e. not-both (tested t e).named f)

  pub shaped-not-text : (texts_whole t && no_other_text t) ≡ false → shaped boxed t ≡ false
  shaped-not-text f = false-by (shaped boxed t) (λ e. not-both (and_both (texts_whole t) _ (tested t e).whole (tested t e).other) f)

  pub shaped-not-twins : no_twins t ≡ false → shaped boxed t ≡ false
  shaped-not-twins f = false-by (shaped boxed t) (λ e. not-both (twins-literal t (each-view t (shaped-each e)) ∙ (tested t e).twice) f)

  pub shaped-not-crowded : none_crowded t ≡ false → shaped boxed t ≡ false
  shaped-not-crowded f = false-by (shaped boxed t) (λ e. not-both (tested t e).crowded f)

  -- the crowds are what is left
  pub shaped-left : each_right t ≡ true → all_named t ≡ true → (texts_whole t && no_other_text t) ≡ true → no_twins t ≡ true → shaped boxed t ≡ none_crowded t
  shaped-left s n x w =
      let c = each-view t s in
      same_truth (shaped boxed t) (none_crowded t) (λ e. (tested t e).crowded)
      (λ k. untested t (record {
        above = c.above;
        holders = c.holders;
        headings = c.headings;
        users = c.users;
        padded = c.padded;
        twice = sym (twins-literal t c) ∙ w;
        named = n;
        crowded = k;
        plain = c.plain;
        whole = and_left (texts_whole t) _ x;
        other = and_right (texts_whole t) _ x;
        legal = c.legal;
      }))
