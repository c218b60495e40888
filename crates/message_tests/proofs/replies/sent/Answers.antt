use Rattle.std.proofs.Common.{rules}
use Rattle.message_tests.proofs.replies.sent.Goals as goal

pub reply-requires : goal.reply-requires
reply-requires c = c.in-Ok.ensures.suits (search rules)
