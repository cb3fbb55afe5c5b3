use Rattle.commands.proofs.login.login.Given as goal

abbrev pub ghosts-talk_over : goal.ghosts-talk_over
ghosts-talk_over g a = record { moment = a.login.moment }
