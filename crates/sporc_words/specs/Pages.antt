-- The text of each page of the help.
use Rattle.std.specs.Prelude.{ℕ, List}
use Rattle.sporc_words.specs.declared.command.TheConstants.{OVERVIEW}
use Rattle.sporc_words.specs.declared.page.Page.{Page}
use Rattle.sporc_words.specs.declared.page.Page.TheVariants as pages
use Rattle.sporc_words.specs.declared.pages.TheConstants.{HELP, VERSION_PAGE}
use Rattle.sporc_words.specs.Verbs.{row_of}

unfoldable pub page_text : Page → List ℕ
page_text pages.Overview = OVERVIEW.now
page_text (pages.Of verb) = (row_of verb).page
page_text pages.Help = HELP.now
page_text pages.Version = VERSION_PAGE.now
