-- The lines of a run are a path from the place before them.
use Rattle.std.proofs.Common.{◌≡◌, ◌⊎◌, inl, ℕ, List, [], ◌∷◌, ◌++◌, refl, sym, subst}
use Rattle.log_grammar.specs.Words.{offered_names}
use Rattle.log_grammar.specs.Lines.{LogLine, said, mechs}
use Rattle.log_grammar.specs.Places.{Place, before_all, between, offered}
use Rattle.log_grammar.specs.Demands.{Accounts, Demands, demands}
use Rattle.log_grammar.specs.state_machine.Steps.{IsTransition}
use Rattle.log_grammar.proofs.lemmas.outcome_laws.LeadingLines.{LeadByLast}
use Rattle.sasl_desk.specs.Runs.{Request, greets, hears, Call, run_lines, server_nonce_of, IsAnsweredBy, IsRun, call_lines}
use Rattle.sasl_desk.specs.Sessions.{IsPath}

module _ (d : Demands) where
  -- a path by some lines, and one by more lines from there, are a path by all
  paths_join : (start : Place) (lines : List LogLine) (middle : Place) (more : List LogLine) (next : Place) → IsPath d start lines middle
      → IsPath d middle more next → IsPath d start (lines ++ more) next
  paths_join start [] middle more next here path = subst (λ (p : Place). IsPath d p more next) here path
  paths_join start (line ∷ lines) middle more next (at, goes, rest) path = (at, goes, paths_join at lines middle more next rest path)

  -- a path is one without its last line, and this line
  path_has_last_line : (start : Place) (lines : List LogLine) (line : LogLine) (next : Place) → IsPath d start (lines ++ line ∷ []) next
      → (at : Place) × IsPath d start lines at × IsTransition d at line next
  path_has_last_line start [] line next (middle, goes, here) =
      (start, refl, subst (λ (p : Place). IsTransition d start line p) (sym here) goes)
  path_has_last_line start (first ∷ lines) line next (middle, goes, path) =
      let (at, front, last) = path_has_last_line middle lines line next path in
      (at, (middle, goes, front), last)

  -- the lines of paths that begin before a session lead to places
  pub paths_lead : (start : Place) → (start ≡ before_all) ⊎ (start ≡ between) → LeadByLast d (IsPath d start)
  paths_lead start begins = record {
    none = λ place here. subst (λ (p : Place). (p ≡ before_all) ⊎ (p ≡ between)) (sym here) begins;
    last = λ lines line next path.
        let (at, front, goes) = path_has_last_line start lines line next path in
        (at, front, inl goes);
  }

-- the lines of a call are a path
call_is_path : (accounts : Accounts) (server_nonce : List ℕ) (request : Request) (place : Place) (lines : List LogLine) (next : Place)
    → IsAnsweredBy accounts server_nonce request place lines next → IsPath (demands accounts) place lines next
call_is_path accounts server_nonce (greets new) place lines next g =
    let d = demands accounts in
    let offer = said (mechs offered_names) ∷ [] in
    let path : IsPath d between offer offered = (offered, (refl, refl), refl) in
    subst (λ (p : Place). IsPath d p lines next) (sym g.from)
    (subst (λ (l : List LogLine). IsPath d between l next) (sym g.says)
    (subst (λ (p : Place). IsPath d between offer p) (sym g.waits) path))
call_is_path accounts server_nonce (hears event moment) place lines next t = t.path

-- the lines of the calls of a run are a path
pub run_is_path : (accounts : Accounts) (calls : List Call) (place : Place) → IsRun accounts calls place
    → IsPath (demands accounts) between (call_lines calls) place
run_is_path accounts [] place run = run
run_is_path accounts (c ∷ before) place (middle, run, answered) =
    paths_join (demands accounts) between (call_lines before) middle c.lines place (run_is_path accounts before middle run)
    (call_is_path accounts (server_nonce_of before) c.request middle c.lines place answered)

-- the lines of a desk's log are a path
pub log_is_path : (accounts : Accounts) (calls : List Call) (place : Place) → IsRun accounts calls place
    → IsPath (demands accounts) before_all (run_lines calls) place
log_is_path accounts calls place run = (between, refl, run_is_path accounts calls place run)
