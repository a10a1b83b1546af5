use Rattle.pam_top.proofs.Answers.{ended_with_error, ended_with_replies}
use Rattle.pam_top.proofs.plain_top.pam_plain.Goals as goal

pub returns-in-Commands-clause-answer : goal.returns-in-Commands-clause-answer
returns-in-Commands-clause-answer g c =
    let (bytes, consumed, asks) = c.in-Commands.ensures.asked in
    let (front, appended, tells) = c.tell.ensures.text in
    (bytes, front, consumed, appended, ended_with_replies _ _ bytes c.in-Commands.list c.run_plain.result c.tell.result front asks.0 c.run_plain.ensures tells)

pub returns-in-Bad-clause-answer : goal.returns-in-Bad-clause-answer
returns-in-Bad-clause-answer g c =
    let (bytes, consumed, asks) = c.in-Bad.ensures.asked in
    let (front, appended, tells) = c.tell-in-Bad.ensures.text in
    (bytes, front, consumed, appended, ended_with_error _ _ bytes c.in-Bad.bad c.error_text.result c.tell-in-Bad.result front asks c.error_text.ensures tells)
