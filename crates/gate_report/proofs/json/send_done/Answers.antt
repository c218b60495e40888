use Rattle.std.proofs.lemmas.Result.{on_ok_weaker}
use Rattle.gate_report.specs.Values.{done_value}
use Rattle.gate_report.proofs.json.send_done.Goals as goal

pub returns : goal.returns
unfolding done_value
returns g c =
    let said = g.S.Serializer.written in
    on_ok_weaker c.end_map.result (λ ends. (
      said c.begin_map.new.self,
      c.in_ok-begin_map.ensures,
      (
        said c.key.new.self,
        said c.bool.new.self,
        c.in_ok-key.ensures,
        c.in_ok-bool.ensures,
        (
          said c.key-2.new.self,
          said c.u64.new.self,
          c.in_ok-key-2.ensures,
          c.in_ok-u64.ensures,
          (
            said c.key-3.new.self,
            said c.u64-2.new.self,
            c.in_ok-key-3.ensures,
            c.in_ok-u64-2.ensures,
            (
              said c.key-4.new.self,
              said c.u64-3.new.self,
              c.in_ok-key-4.ensures,
              c.in_ok-u64-3.ensures,
              (
                said c.key-5.new.self,
                said c.u64-4.new.self,
                c.in_ok-key-5.ensures,
                c.in_ok-u64-4.ensures,
                (
                  said c.key-6.new.self,
                  said c.u64-5.new.self,
                  c.in_ok-key-6.ensures,
                  c.in_ok-u64-5.ensures,
                  (said c.key-7.new.self, said c.u64-6.new.self, c.in_ok-key-7.ensures, c.in_ok-u64-6.ensures, ends),
                ),
              ),
            ),
          ),
        ),
      ),
    )) c.end_map.ensures
