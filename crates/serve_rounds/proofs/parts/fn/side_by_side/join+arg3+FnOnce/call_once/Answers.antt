-- What is sent tells of each parameter that it crosses; the call asks the same of them, in their rows there.
use Rattle.serve_rounds.proofs.parts.fn.side_by_side.join+arg3+FnOnce.call_once.Goals as goal

pub join+arg3-requires : goal.join+arg3-requires
join+arg3-requires g c =
    let asked = c.requires.1.1.1.1.1.1.0 in
    let crosses = c.requires.1.1.1.1.1.1.1 in
    (record { owned = crosses.0.owned; leaving = crosses.0.leaving }, (record { owned = crosses.1.owned; leaving = crosses.1.leaving }, (record { owned = crosses.2.owned; leaving = crosses.2.leaving }, (record { owned = crosses.3.owned; leaving = crosses.3.leaving }, (record { owned = crosses.4.owned; leaving = crosses.4.leaving }, (record { shared = crosses.5.shared }, (record { shared = crosses.6.shared }, (record { shared = crosses.7.shared }, (record { shared = crosses.8.shared }, (record { shared = crosses.9.shared }, (record { shared = crosses.10.shared }, (record { owned = asked.0.owned; leaving = asked.0.leaving }, (record { shared = asked.1.shared })))))))))))))
