use Rattle.std.proofs.Common.{◌≡◌, take, map, Option}
use Rattle.gate_base.specs.declared.address.Addr.{Addr}
use Rattle.dialogue.specs.Prelude.{Entry}
use Rattle.dns_plans.specs.Prelude.{beside}
use Rattle.dns_plans.proofs.called.beside.Given as goal

abbrev pub invariant-loop-place : goal.invariant-loop-place
invariant-loop-place l = record {
  named : map (λ (entry : Entry). entry.0) l.entries.items ≡ take l.place l.named;
  images : (called : Addr → Option Addr) → l.images ≡ map called l.named → l.entries.items ≡ beside called (take l.place l.named);
}
