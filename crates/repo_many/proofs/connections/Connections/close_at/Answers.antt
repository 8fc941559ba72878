use Rattle.std.proofs.Common.{rules, ◌≡◌, true, Result, Ok, Err, OnOk, is_ok, sym}
use Rattle.repo_many.proofs.Leading.{nothing_leads}
use Rattle.repo_many.proofs.connections.Connections.close_at.Goals as goal

pub returns-else-is_err-clause-leaves : goal.returns-else-is_err-clause-leaves
returns-else-is_err-clause-leaves g c = nothing_leads _ _ _ _ c.renew-renewed.ensures.stands

where_ok : {A E : Type 0} (r : Result A E) (P : Type 0) → is_ok r ≡ true → OnOk r P → P
where_ok (Ok x) P is p = p
where_ok (Err e) P is p = absurd (cc)

-- a place is left free only where its guest was renewed
pub returns-else-is_err-clause-renewed : goal.returns-else-is_err-clause-renewed
returns-else-is_err-clause-renewed g c free guest at =
    let same = c.leave.ensures.there _ free in
    let given = c.left_by.ensures.free (sym same) in
    let renewed : is_ok c.renew-renewed.result ≡ true = search rules in
    where_ok c.renew-renewed.result _ renewed c.renew-renewed.ensures.ok guest at
