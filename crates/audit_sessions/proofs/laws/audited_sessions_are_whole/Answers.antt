use Rattle.std.proofs.Common.{refl}
use Rattle.audit_sessions.proofs.HeardLaws.{reads_whole, heard_lists, made_session, next_session}
use Rattle.audit_sessions.proofs.laws.audited_sessions_are_whole.Goals as goal

pub returns : goal.returns
returns g = record { reads = reads_whole; sent = λ image f h g n. refl; lists = heard_lists; made = made_session; next = next_session }
