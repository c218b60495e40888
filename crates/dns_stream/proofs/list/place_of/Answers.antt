use Rattle.std.proofs.Common.{rules}
use Rattle.std.proofs.lemmas.List.Sorted.{answers_always}
use Rattle.dialogue.specs.Prelude.{Entry}
use Rattle.dns_stream.proofs.Order.{searched}
use Rattle.dns_stream.proofs.list.place_of.Goals as goal

pub returns : goal.returns
returns c =
    let facts = c.binary_search_by_key.ensures in
    searched c.args.sorted.now c.requires c.args.address.0 _ facts.bound
    (facts.position (λ (entry : Entry). entry.0.0) (answers_always _ _ _ (λ f a r g called. search rules)))
