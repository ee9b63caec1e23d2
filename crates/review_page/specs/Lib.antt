-- The reviewer's pages: what is claimed of the clubs' sheets and of the federation's, a sentence and a theorem each.
pub mod Page
pub mod FederationPage
