use Rattle.std.proofs.Common.{◌≡◌, ◌+◌, ◌≤◌, ◌++◌, ◌∷◌, [], ℕ, List, length, sym, ◌∙◌, ap, subst, arith}
use Rattle.nbt_name.specs.Scope.{empty}
use Rattle.nbt_name.proofs.Scopes.{IsScope-push}
use Rattle.nbt_text.specs.NameText.{dot}
use Rattle.nbt_text.proofs.Splitting.{left, left_behind}
use Rattle.nbt_text.proofs.NameText.{Left, IsTail-tail, tail, left_first, left_past, left_last, nothing_left, pieces_are, nothing_spelled}
use Rattle.nbt_text.proofs.name_text.parse_name.Goals as goal

pub returns-in_err-octets : goal.returns-in_err-octets
returns-in_err-octets c =
    let whole = pieces_are c.args.text.now c.split_at_first.result.0.now c.split_at_first.result.1 c.split_at_first.ensures.whole in
    let none = c.from_residual.ensures in
    let was = c.in_err-octets.was in
    λ name. (
      λ e. absurd cc,
      λ s. absurd (nothing_spelled c.args.text.now c.split_at_first.result.0.now (tail c.split_at_first.result.1) name whole c.split_at_first.ensures.first (IsTail-tail c.split_at_first.result.1)
          (λ octets six. let found = c.sixteen_of.ensures.found octets six in cc) s),
    )

pub labels-init : goal.labels-init
labels-init c =
    let whole = pieces_are c.args.text.now c.split_at_first.result.0.now c.split_at_first.result.1 c.split_at_first.ensures.whole in
    record {
      is_scope = rw c.new-scope.ensures empty;
      left = λ name. rw c.new-scope.ensures (left_first c.args.text.now c.split_at_first.result.0.now c.in_ok-octets.octets (tail c.split_at_first.result.1) name whole c.split_at_first.ensures.first (IsTail-tail c.split_at_first.result.1) c.in_ok-octets.ensures.read);
    }

pub returns-in_err-push_label : goal.returns-in_err-push_label
returns-in_err-push_label c =
    let component = c.split_at_first-in-Some.result.0.now in
    let others = tail c.split_at_first-in-Some.result.1 in
    let rest_is : tail c.labels.rest ≡ dot ∷ (component ++ others) = ap tail c.in-Some.is ∙ ap (λ (x : List ℕ). dot ∷ x) (pieces_are c.in-Some.labels.now component c.split_at_first-in-Some.result.1 c.split_at_first-in-Some.ensures.whole) in
    let none = c.from_residual-in_err-push_label.ensures in
    λ name. (
      λ e. absurd cc,
      λ s. absurd (nothing_left c.in_ok-octets.octets c.labels.scope.items component others name c.split_at_first-in-Some.ensures.first (IsTail-tail c.split_at_first-in-Some.result.1) c.in_err-push_label.ensures.refused
          (subst (λ (r : List ℕ). Left c.in_ok-octets.octets c.labels.scope.items r name) rest_is ((c.labels.invariant.left name).0 s))),
    )

pub labels-smaller : goal.labels-smaller
labels-smaller c =
    let behind = left_behind dot c.in-Some.labels.now c.split_at_first-in-Some.result.0.now c.split_at_first-in-Some.result.1 c.split_at_first-in-Some.ensures.whole in
    let now : left c.labels.rest ≡ length c.in-Some.labels.now + 1 = ap left c.in-Some.is in omega arith

pub labels-preserved : goal.labels-preserved
labels-preserved c =
    let component = c.split_at_first-in-Some.result.0.now in
    let others = tail c.split_at_first-in-Some.result.1 in
    let rest_is : tail c.labels.rest ≡ dot ∷ (component ++ others) = ap tail c.in-Some.is ∙ ap (λ (x : List ℕ). dot ∷ x) (pieces_are c.in-Some.labels.now component c.split_at_first-in-Some.result.1 c.split_at_first-in-Some.ensures.whole) in
    let pushed = c.in_ok-push_label.ensures.pushed in
    record {
      is_scope = rw pushed.4 (IsScope-push c.labels.scope.items pushed.0 c.labels.invariant.is_scope pushed.2 pushed.3);
      left = λ name.
          let before = c.labels.invariant.left name in
          let past = left_past c.in_ok-octets.octets c.labels.scope.items component others pushed.0 name c.split_at_first-in-Some.ensures.first (IsTail-tail c.split_at_first-in-Some.result.1) pushed.1 pushed.2 pushed.3 in
          rw pushed.4 (
            λ s. past.0 (subst (λ (r : List ℕ). Left c.in_ok-octets.octets c.labels.scope.items r name) rest_is (before.0 s)),
            λ l. before.1 (subst (λ (r : List ℕ). Left c.in_ok-octets.octets c.labels.scope.items r name) (sym rest_is) (past.1 l)),
          );
    }

pub returns : goal.returns
returns c =
    let rest_is : tail c.labels.rest ≡ [] = ap tail c.in_default.is in
    let fits : length c.labels.scope.items ≤ 221 = omega (arith, c.as_slice.ensures.fits, ap length c.as_slice.ensures.value) in
    λ name.
    let before = c.labels.invariant.left name in
    let last = left_last c.in_ok-octets.octets c.labels.scope.items name fits in
    rw (c.name_from.ensures, c.as_slice.ensures.value) (
      λ e. before.1 (subst (λ (r : List ℕ). Left c.in_ok-octets.octets c.labels.scope.items r name) (sym rest_is) (last.0 e)),
      λ s. last.1 (subst (λ (r : List ℕ). Left c.in_ok-octets.octets c.labels.scope.items r name) rest_is (before.0 s)),
    )
