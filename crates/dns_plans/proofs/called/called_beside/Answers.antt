use Rattle.std.proofs.Common.{◌≡◌, List, length, drop, sym, ◌∙◌, ap, subst, rules, take_at}
use Rattle.gate_base.specs.declared.address.Addr.{Addr}
use Rattle.binding_table.specs.Prelude.{AreUsesOf, images_after}
use Rattle.dns_plans.specs.Prelude.{all_addresses, called_after}
use Rattle.dns_plans.proofs.PlannedLemmas.{behind_two, images_behind_are}
use Rattle.dns_plans.proofs.called.called_beside.Goals as goal

pub returns-clause-images : goal.returns-clause-images
returns-clause-images c = λ uses u room.
    let side = c.args.endpoints.now.side in
    let used : List Addr = all_addresses c.args.endpoints.now c.args.named.now in
    let all : c.deref.result.now ≡ used = c.deref.ensures.value ∙ c.in_ok-addresses.ensures in
    let planned : c.plan-room.new.images ≡ images_after c.args.table.now uses =
    c.plan-room.ensures.images room uses (subst (λ (xs : List Addr). AreUsesOf side xs uses) (sym all) u) in
    let long : length c.plan-room.new.images ≡ c.in_ok-images.images.len =
    (let d = c.plan-room.auto.images in let e = c.deref_mut.ensures.len in search rules) in
    let written : c.deref-2.result.now ≡ c.plan-room.new.images = c.deref-2.ensures.value
    ∙ take_at c.plan-room.new.images (drop (length c.plan-room.new.images) c.in_ok-images.images.items) c.in_ok-images.images.len long in
    c.in_ok-beside.ensures.images (called_after c.args.table.now uses side)
    (behind_two c.deref-2.result.now ∙ ap (drop 2) (written ∙ planned) ∙ images_behind_are c.args.table.now side used uses u)
