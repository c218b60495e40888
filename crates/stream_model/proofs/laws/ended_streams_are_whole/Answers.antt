use Rattle.std.proofs.Common.{Bool, [], subst}
use Rattle.dialogue.specs.Prelude.{due}
use Rattle.stream_model.specs.Numbers.{known}
use Rattle.stream_model.specs.Session.{own}
use Rattle.stream_model.specs.Steps.{session_made}
use Rattle.stream_model.specs.History.{after, sent_of, SentIs}
use Rattle.stream_model.proofs.SessionSent.{sound_after, sound_made}
use Rattle.stream_model.proofs.laws.ended_streams_are_whole.Goals as goal

pub returns : goal.returns
returns k = λ c s i m events of_client lc ls pass ended.
    let a = own of_client (after (session_made c s i m) events) in
    subst (λ (x : Bool). SentIs (known a.initial) (due a.meaning x a.octets) (sent_of of_client (session_made c s i m) events)) ended
    (sound_after of_client events (session_made c s i m) [] pass (sound_made c s i m of_client lc ls)).sent_is
