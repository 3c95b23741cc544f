-- The bars of jobs, one after another.
use Rattle.std.proofs.Common.{◌≡◌, ℕ, ◌+◌, ◌<◌, List, ◌∷◌, ◌++◌, suc, length, drop, get_or, drop-cons, append_assoc, arith, sym, ap, ◌∙◌}
use Rattle.s3_book.specs.declared.day.Job.{Job}
use Rattle.s3_book.specs.Inner.Index.{bar, bars, start_of}
use Rattle.s3_book.specs.Inner.Parts.{page_of}
use Rattle.s3_book.specs.Inner.Scale.{end}

-- with the bar of the next job, the texts so far and of the jobs that are left are still the texts of all
pub next_bar : (turns edge start ends i : ℕ) (jobs : List Job) (d : Job) (text new whole : List ℕ) → i < length jobs
    → start ≡ start_of edge (get_or jobs i d) → new ≡ text ++ page_of (bar turns start (get_or jobs i d))
    → ends ≡ end turns start (get_or jobs i d).first (get_or jobs i d).last
    → text ++ bars turns edge (drop i jobs) ≡ whole → new ++ bars turns ends (drop (i + 1) jobs) ≡ whole
next_bar turns edge start ends i jobs d text new whole within starts appended at_end so_far =
    let job : Job = get_or jobs i d in
    let rest : List Job = drop (i + 1) jobs in
    let further : suc i ≡ i + 1 = omega arith in
    let split : drop i jobs ≡ job ∷ rest = drop-cons jobs i d within ∙ ap (λ n. job ∷ drop n jobs) further in
    let page : List ℕ = page_of (bar turns start job) in
    let parted : page ++ bars turns ends rest ≡ bars turns edge (drop i jobs) =
    ap (λ n. page ++ bars turns n rest) at_end
    ∙ (ap (λ n. page_of (bar turns n job) ++ bars turns (end turns n job.first job.last) rest) starts ∙ ap (λ left. bars turns edge left) (sym split)) in
    ap (λ t. t ++ bars turns ends rest) appended ∙ (append_assoc text page (bars turns ends rest) ∙ (ap (λ more. text ++ more) parted ∙ so_far))
