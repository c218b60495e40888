use Rattle.std.proofs.Common.{◌≡◌, ◌∙◌, ap, List, ℕ}
use Rattle.gate_workload.specs.Rounds.{State, made}
use Rattle.gate_workload.specs.Workloads.{settings}
use Rattle.gate_workload.specs.declared.workload.Workload.{Workload}
use Rattle.gate_workload.proofs.workload.make.Goals as goal

-- a workload of equal parts
same : (a b x y p q : List ℕ) → a ≡ b → x ≡ y → p ≡ q → ◌≡◌ {A = Workload} record { settings = a; left = x; right = p }
    record { settings = b; left = y; right = q }
same a b x y p q e f g = cc

pub returns : goal.returns
returns c =
    let text : c.of-2.result ≡ settings = c.of-2.ensures ∙ c.in_ok-settings.ensures.items in
    let left : c.of-3.result ≡ (made c.args.number c.args.count).left = c.of-3.ensures ∙ c.captures-left.ensures.left
    ∙ ap (λ (s : State). s.left) c.in_ok-of.ensures in
    let right : c.of-4.result ≡ (made c.args.number c.args.count).right = c.of-4.ensures ∙ c.captures-left.ensures.right
    ∙ ap (λ (s : State). s.right) c.in_ok-of.ensures in
    same _ _ _ _ _ _ text left right
