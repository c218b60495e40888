use Rattle.std.proofs.Common.{Ok, Err, [], ◌∷◌, refl}
use Rattle.gate_desk.specs.declared.slot.Slot.TheVariants.{LeftOut, RightOut}
use Rattle.pcap_files.specs.Prelude.{head_octets}
use Rattle.run_setup.specs.declared.status.Status.TheVariants.{WriteFault}
use Rattle.gateway.proofs.Pieces.{piece}
use Rattle.gateway.proofs.Causes.{gives_one, give_fails, gives_on, gives_more}
use Rattle.gateway.proofs.outputs.write_heads.Goals as goal

pub returns-in-Err : goal.returns-in-Err
returns-in-Err g c =
    gives_more (WriteFault LeftOut) (piece LeftOut (head_octets c.args.settings.now.left.link) ∷ [])
    (piece RightOut (head_octets c.args.settings.now.right.link) ∷ []) (g.D.Desk.outside c.args.desk.now) (g.D.Desk.outside c.write_head.new.desk)
    (give_fails LeftOut _ _ _ refl c.in-Err.ensures.err c.in-Err.ensures.cause)

pub returns-in-Ok-write_head : goal.returns-in-Ok-write_head
returns-in-Ok-write_head g c =
    gives_on (Ok tt) (piece LeftOut (head_octets c.args.settings.now.left.link) ∷ [])
    (piece RightOut (head_octets c.args.settings.now.right.link) ∷ []) (g.D.Desk.outside c.args.desk.now) (g.D.Desk.outside c.write_head.new.desk)
    (g.D.Desk.outside c.write_head-2.new.desk)
    (gives_one LeftOut _ _ _ c.in-Ok.ensures.ok c.in-Ok.ensures.leaves)
    (gives_one RightOut _ _ _ c.in-Ok-write_head.ensures.ok c.in-Ok-write_head.ensures.leaves)

pub returns-in-Err-write_head : goal.returns-in-Err-write_head
returns-in-Err-write_head g c =
    gives_on (Err (WriteFault RightOut)) (piece LeftOut (head_octets c.args.settings.now.left.link) ∷ [])
    (piece RightOut (head_octets c.args.settings.now.right.link) ∷ []) (g.D.Desk.outside c.args.desk.now) (g.D.Desk.outside c.write_head.new.desk)
    (g.D.Desk.outside c.write_head-2.new.desk)
    (gives_one LeftOut _ _ _ c.in-Ok.ensures.ok c.in-Ok.ensures.leaves)
    (give_fails RightOut _ _ _ refl c.in-Err-write_head.ensures.err c.in-Err-write_head.ensures.cause)
