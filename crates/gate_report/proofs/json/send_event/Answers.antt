use Rattle.std.proofs.lemmas.Result.{on_ok_weaker}
use Rattle.gate_report.specs.Values.{event_value}
use Rattle.gate_report.proofs.json.send_event.Goals as goal

pub returns : goal.returns
unfolding event_value
returns g c =
    let said = g.S.Serializer.written in
    let frames = rw c.from.ensures at c.in_ok-u64-2.ensures in
    let side = rw c.name.ensures at c.in_ok-str.ensures in
    let verdict = rw c.name-2.ensures at c.in_ok-str-2.ensures in
    on_ok_weaker c.end_map.result (λ ends. (
      said c.begin_map.new.self,
      c.in_ok-begin_map.ensures,
      (
        said c.key.new.self,
        said c.u64.new.self,
        c.in_ok-key.ensures,
        c.in_ok-u64.ensures,
        (
          said c.key-2.new.self,
          said c.u64-2.new.self,
          c.in_ok-key-2.ensures,
          frames,
          (
            said c.key-3.new.self,
            said c.u64-3.new.self,
            c.in_ok-key-3.ensures,
            c.in_ok-u64-3.ensures,
            (
              said c.key-4.new.self,
              said c.str.new.self,
              c.in_ok-key-4.ensures,
              side,
              (said c.key-5.new.self, said c.str-2.new.self, c.in_ok-key-5.ensures, verdict, ends),
            ),
          ),
        ),
      ),
    )) c.end_map.ensures
