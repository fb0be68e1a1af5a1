use Rattle.tp_farm.proofs.Accounts.{went, accounts_done, accounts_lost}
use Rattle.tp_farm.proofs.member.file_packet.Goals as goal

pub returns-in-Ok-clause-accounts : goal.returns-in-Ok-clause-accounts
returns-in-Ok-clause-accounts g c =
    let put =
    went _ (g.W.WorkSource.progress c.args.member.now.hand) _ c.finish.result c.requires.in_hand c.finish.ensures.ok
    c.finish.ensures.empty in
    rw c.push_reserved.ensures.items
    (accounts_done _ _ _ _ _ _ _ c.requires.accounts c.in-Ok.ensures.settings c.args.number put.0 c.in-Ok.done
    c.in-Ok.ensures.rises c.in-Ok.ensures.done c.requires.in_hand put.1)

pub returns-in-Err-clause-accounts : goal.returns-in-Err-clause-accounts
returns-in-Err-clause-accounts g c =
    let put =
    went _ (g.W.WorkSource.progress c.args.member.now.hand) _ c.abandon.result c.requires.in_hand c.abandon.ensures.ok
    c.abandon.ensures.empty in
    rw c.push_reserved-in-Err.ensures.items
    (accounts_lost _ _ _ _ _ _ _ c.requires.accounts c.in-Err.ensures.settings c.args.number put.0 c.args.packet.now.items _
    c.in-Err.ensures.rises c.requires.packet c.in-Err.ensures.reason c.requires.in_hand put.1)
